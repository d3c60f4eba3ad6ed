use Rattle.std.proofs.Common.{◌-◌, arith, List, sym, ◌∙◌}
use Rattle.grb_results.proofs.Prelude.{Call}
use Rattle.grb_results.proofs.Frame.{last_leads}
use Rattle.grb_results.proofs.Settled.{last_there}
use Rattle.grb_results.proofs.table.Table.make.Goals as goal

pub returns-then-count-eq0-clause-kept : goal.returns-then-count-eq0-clause-kept
returns-then-count-eq0-clause-kept g c live =
    let cs : List Call = g.C.CallList.calls c.args.source.now c.args.calls.now in
    absurd (last_there cs c.args.self.now.learnt c.args.object c.requires.table.table.learnt (sym c.last_of-count.ensures ∙ c.if-count-eq0.true) live)

pub evaluate-requires-clause-to_make : goal.evaluate-requires-clause-to_make
evaluate-requires-clause-to_make g c =
    let cs : List Call = g.C.CallList.calls c.args.source.now c.args.calls.now in let t = c.args.self.now in
    let l = last_leads cs t c.args.object c.last_of-count.result (c.last_of-count.result - 1) c.requires.table.table c.last_of-count.ensures (omega (arith, c.if-count-eq0.false)) in
    record { near = omega (arith, l.0, c.requires.table.table.places, c.requires.table.all); accepted = l.1 }
