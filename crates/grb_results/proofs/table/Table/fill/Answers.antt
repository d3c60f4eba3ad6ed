use Rattle.std.proofs.Common.{Some, refl, slice_set, arith}
use Rattle.grb_results.proofs.Exchanging.{filled_keeps}
use Rattle.grb_results.proofs.Frame.{table_put, taken_put}
use Rattle.grb_results.proofs.Lists.{set_here}
use Rattle.grb_results.proofs.Settled.{apart_none}
use Rattle.grb_results.proofs.table.Table.fill.Goals as goal

pub returns-clause-taken : goal.returns-clause-taken
returns-clause-taken c theirs w stands same =
    let xs = c.args.self.now.results.items in
    taken_put xs theirs (slice_set xs c.args.at (Some c.args.value)) c.args.at c.args.value w stands same refl

pub returns-clause-table : goal.returns-clause-table
returns-clause-table c cs was is =
    table_put cs c.args.self.now _ c.args.at c.args.value was (apart_none c.args.self.now c.args.at was.settled c.in_default.ensures.none) is refl (omega arith) refl

pub returns-clause-stays : goal.returns-clause-stays
returns-clause-stays c = filled_keeps c.args.self.now.results.items c.args.at c.args.value c.in_default.ensures.none

pub returns-clause-kept : goal.returns-clause-kept
returns-clause-kept c near = record { content = c.args.value; kept = set_here c.args.self.now.results.items c.args.at (Some c.args.value) near }
