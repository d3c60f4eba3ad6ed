use Rattle.std.proofs.Common.{arith}
use Rattle.grb_results.proofs.Prelude.{on_ok_weaker}
use Rattle.grb_results.proofs.LastResults.{place_last}
use Rattle.grb_results.proofs.table.Table.assemble_last.Goals as goal

pub returns-clause-kept : goal.returns-clause-kept
returns-clause-kept c =
    let last = place_last c.args.self.now c.args.object c.last_of-count.result c.last_of-count.ensures c.requires.kept in
    c.assemble.ensures.kept c.args.object (omega (arith, last)) c.requires.kept

pub returns-clause-ready : goal.returns-clause-ready
returns-clause-ready c =
    let last = place_last c.args.self.now c.args.object c.last_of-count.result c.last_of-count.ensures c.requires.kept in
    on_ok_weaker c.assemble.result (λ ready. ready c.args.object (omega (arith, last)) c.requires.kept) c.assemble.ensures.ready
