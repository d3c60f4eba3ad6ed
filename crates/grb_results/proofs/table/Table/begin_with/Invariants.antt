use Rattle.grb_results.proofs.Prelude.{Begins}
use Rattle.grb_results.proofs.table.Table.begin_with.Given as goal

abbrev pub invariant-objects : goal.invariant-objects
invariant-objects l = Begins l.state.store l.initial.self l.self
