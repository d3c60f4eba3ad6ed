use Rattle.std.proofs.Common.{◌≡◌, ◌≤◌, ◌<◌, ◌+◌, ◌++◌, ℕ, true, false, length}
use Rattle.std.specs.Prelude.{Some}
use Rattle.grb_core.specs.Monoid.{identity_of}
use Rattle.grb_kernels.specs.Typed.{first_entries}
use Rattle.grb_sums.specs.Naming.{name_in}
use Rattle.grb_kernels.specs.Bits.{has_bit}
use Rattle.grb_sums.specs.Bits.{value_at}
use Rattle.grb_sums.specs.Marks.{bits_from}
use Rattle.grb_sums.proofs.marks.take_word.Given as goal

-- the entries so far, and those of the bits that are left, whose sums are as they were; the others are cleared
abbrev pub invariant-bits : goal.invariant-bits
invariant-bits g l = record {
  in_range : (t : ℕ) → has_bit l.left t ≡ true → (l.base + t < length l.fn.sums);
  before : (t : ℕ) → has_bit l.left t ≡ true → (l.k ≤ l.base + t);
  within : l.k ≤ length l.fn.sums;
  most : l.k ≤ l.base + 64;
  left : (t : ℕ) → has_bit l.left t ≡ true → value_at g.T.Scalar.value l.sums (l.base + t) ≡ value_at g.T.Scalar.value l.fn.sums (l.base + t);
  above : (i : ℕ) → l.base + 64 ≤ i → value_at g.T.Scalar.value l.sums i ≡ value_at g.T.Scalar.value l.fn.sums i;
  clear : (t : ℕ) → t < 64 → has_bit l.word t ≡ true → has_bit l.left t ≡ false → value_at g.T.Scalar.value l.sums (l.base + t) ≡ Some (identity_of g.M.MonoidOver.monoid);
  stay : (i : ℕ) → value_at g.T.Scalar.value l.fn.sums i ≡ Some (identity_of g.M.MonoidOver.monoid) → value_at g.T.Scalar.value l.sums i ≡ Some (identity_of g.M.MonoidOver.monoid);
  so_far : first_entries g.T.Scalar.value l.k l.columns l.values ++ bits_from (name_in l.names) (has_bit l.left) (value_at g.T.Scalar.value l.fn.sums) l.base 64 0
      ≡ first_entries g.T.Scalar.value l.fn.k l.fn.columns l.fn.values ++ bits_from (name_in l.names) (has_bit l.fn.word) (value_at g.T.Scalar.value l.fn.sums) l.base 64 0;
}

abbrev pub decreases-bits : goal.decreases-bits
decreases-bits g l = l.left
