use Rattle.std.proofs.Common.{◌≡◌}
use Rattle.grb_results.proofs.table.Table.work_for.Given as goal

abbrev pub invariant-back : goal.invariant-back
invariant-back g l = l.calls ≡ l.initial.calls
