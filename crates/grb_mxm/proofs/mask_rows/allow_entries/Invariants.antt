use Rattle.std.proofs.Common.{◌≡◌, ◌≤◌, ℕ, length, get_or, false}
use Rattle.std.specs.Ordering.{nat_cmp}
use Rattle.std.specs.FinMap.{find}
use Rattle.grb_core.specs.Mask.{selects}
use Rattle.grb_kernels.specs.Typed.{entries_from}
use Rattle.grb_mxm.specs.AllowedSums.{allowed_of, summed_of}
use Rattle.grb_mxm.proofs.mask_rows.allow_entries.Given as goal

-- those from i on are allowed, as they select
abbrev pub invariant-down : goal.invariant-down
invariant-down g l = record {
  i : l.i ≤ length l.places;
  allowed_from : (p : ℕ) → get_or (allowed_of l.states) p false ≡ selects l.structure (find nat_cmp p (entries_from g.U.Scalar.value l.i l.places l.values));
  none : (p : ℕ) → get_or (summed_of l.states) p false ≡ false;
}

abbrev pub decreases-down : goal.decreases-down
decreases-down g l = l.i
