use Rattle.std.proofs.Common.{◌≡◌, ◌<◌, ◌≤◌, ◌++◌, ℕ, length, get_or, true, false, drop}
use Rattle.grb_core.specs.Monoid.{identity_of}
use Rattle.grb_kernels.specs.Typed.{first_entries}
use Rattle.grb_semirings.specs.Open.{marked_at}
use Rattle.grb_sums.specs.Naming.{name_in}
use Rattle.grb_mxm.specs.RowProducts.{picked}
use Rattle.grb_sums.specs.Marks.{HoldUnmarked}
use Rattle.grb_mxm.specs.AllowedSums.{allowed_of, summed_of}
use Rattle.grb_mxm.proofs.allowed_sums.take_picked.Given as goal

-- the entries so far, and those of the places that are left, where the sums are as they were and what is still allowed stands
abbrev pub invariant-places : goal.invariant-places
invariant-places g l =
    let tv = g.T.Scalar.value in
    record {
      k : l.k ≤ l.i;
      so_far : first_entries tv l.k l.columns l.values ++ picked (name_in l.names) (marked_at tv (summed_of l.fn.states) l.fn.sums) (drop l.i l.places) ≡ picked (name_in l.names) (marked_at tv (summed_of l.fn.states) l.fn.sums) l.places;
      ahead : (j : ℕ) → l.i ≤ j → j < length l.places → marked_at tv (summed_of l.states) l.sums (get_or l.places j 0) ≡ marked_at tv (summed_of l.fn.states) l.fn.sums (get_or l.places j 0);
      left : (p : ℕ) → get_or (allowed_of l.states) p false ≡ true → (k : ℕ) × (l.i ≤ k) × (k < length l.places) × (get_or l.places k 0 ≡ p);
      clear : HoldUnmarked tv (identity_of g.M.MonoidOver.monoid) (summed_of l.states) l.sums;
    }
