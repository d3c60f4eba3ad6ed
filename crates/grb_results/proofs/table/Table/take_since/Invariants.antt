use Rattle.grb_results.proofs.Prelude.{IsTakenFrom}
use Rattle.grb_results.proofs.table.Table.take_since.Given as goal

abbrev pub invariant-walk : goal.invariant-walk
invariant-walk l = IsTakenFrom l.initial.self l.other l.self
