use Rattle.std.proofs.Common.{◌≡◌, ◌≤◌, ℕ, length}
use Rattle.std.specs.Ordering.{nat_cmp}
use Rattle.std.specs.FinMap.{find}
use Rattle.grb_kernels.specs.Typed.{entries_from}
use Rattle.grb_semirings.specs.Open.{marked_at}
use Rattle.grb_pull.proofs.lookup.scatter.Given as goal

-- those from i on lie open
abbrev pub invariant-down : goal.invariant-down
invariant-down g l = record {
  i : l.i ≤ length l.indices;
  open_from : (j : ℕ) → marked_at g.T.Scalar.value l.marks l.dense j ≡ find nat_cmp j (entries_from g.T.Scalar.value l.i l.indices l.values);
}

abbrev pub decreases-down : goal.decreases-down
decreases-down g l = l.i
