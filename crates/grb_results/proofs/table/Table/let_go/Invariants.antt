use Rattle.std.proofs.Common.{◌≡◌}
use Rattle.grb_results.proofs.table.Table.let_go.Given as goal

abbrev pub invariant-back : goal.invariant-back
invariant-back l = l.self ≡ l.initial.self
