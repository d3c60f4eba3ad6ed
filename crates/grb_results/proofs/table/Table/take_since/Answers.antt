use Rattle.std.proofs.Common.{arith}
use Rattle.grb_results.proofs.Prelude.{on_ok_weaker}
use Rattle.grb_results.proofs.Exchanging.{also_all, taken_then}
use Rattle.grb_results.proofs.table.Table.take_since.Goals as goal

pub returns-then-since-eq0-clause-all : goal.returns-then-since-eq0-clause-all
returns-then-since-eq0-clause-all c = on_ok_weaker c.take_places.result (λ kept first. also_all c.args.other.now c.take_places.new.self c.len.result (let count = c.len.ensures in let ok = c.args.other.now.results.ok in omega (arith, count, ok)) kept) c.take_places.ensures.kept

pub returns-in_err-take_places-clause-taken : goal.returns-in_err-take_places-clause-taken
returns-in_err-take_places-clause-taken c = taken_then c.args.self.now c.args.other.now c.walk.self c.take_places-in-walk.new.self c.walk.invariant c.take_places-in-walk.ensures.taken

pub walk-preserved : goal.walk-preserved
walk-preserved c = taken_then c.args.self.now c.args.other.now c.walk.self c.take_places-in-walk.new.self c.walk.invariant c.take_places-in-walk.ensures.taken
