-- believed: What a user relies on of masks, written outputs and results, over all maps, places and values. `laws.rt` promises each.
-- In a vector `R` is `nat_cmp`, and in a matrix `cell_cmp`.
use Rattle.std.specs.Prelude.{◌≡◌, ◌<◌, ℕ, Bool, true, false, not, IsTrue, List, Option, None, All}
use Rattle.std.specs.declared.cmp.Ordering.{Ordering}
use Rattle.std.specs.Ordering.{nat_cmp}
use Rattle.std.specs.FinMap.{find, is_sorted}
use Rattle.grb_core.specs.declared.domain.Domain.{Domain}
use Rattle.grb_core.specs.declared.operator.BinaryOp.{BinaryOp}
use Rattle.grb_core.specs.declared.monoid.Monoid.{Monoid}
use Rattle.grb_core.specs.declared.value.Value.{Value}
use Rattle.grb_core.specs.Value.{IsValueOf}
use Rattle.grb_core.specs.Operator.{op_domain, value_of_op}
use Rattle.grb_core.specs.Monoid.{monoid_op, monoid_domain}
use Rattle.grb_core.specs.Entries.{Cell, cell_cmp, VectorEntries, MatrixEntries}
use Rattle.grb_core.specs.Semiring.{SemiringParts}
use Rattle.grb_core.specs.Mask.{is_inside}
use Rattle.grb_core.specs.Written.{AccumulatesIn, accumulated, written}
use Rattle.grb_core.specs.Results.{ewise_add, ewise_mult, mxv_of, mxm_of, reduce_rows_of, reduce_of}

-- the operator gives the same of two values of its domain, whichever comes first
abbrev pub Commutes : BinaryOp → Type 0
Commutes op = (a b : Value) → IsValueOf (op_domain op) a → IsValueOf (op_domain op) b → value_of_op op a b ≡ value_of_op op b a

-- an operator of a monoid does
abbrev pub MonoidsCommute : Type 0
MonoidsCommute = (m : Monoid) → Commutes (monoid_op m)

-- a place within a size, and one within two dimensions
abbrev pub IsBelow : ℕ → ℕ → Type 0
IsBelow size i = i < size

abbrev pub IsCellBelow : ℕ → ℕ → Cell → Type 0
IsCellBelow nrows ncols cell = (cell.0 < nrows) × (cell.1 < ncols)

module _ {K : Type 0} (R : K → K → Ordering) where
  -- with a commutative operator, eWiseAdd and eWiseMult do not depend on which input comes first
  abbrev pub EwiseInEitherOrder : Type 0
  EwiseInEitherOrder =
      (op : BinaryOp) (a b : List (K × Value)) → Commutes op → All (λ e. IsValueOf (op_domain op) e.1) a → All (λ e. IsValueOf (op_domain op) e.1) b
      → (ewise_add R op a b ≡ ewise_add R op b a) × (ewise_mult R op a b ≡ ewise_mult R op b a)

  -- each place is inside a mask, read by value or by structure, or inside its complement, and not both
  abbrev pub ComplementParts : Type 0
  ComplementParts = (structure : Bool) (mask : Option (List (K × Value))) (k : K) → is_inside R structure true mask k ≡ not (is_inside R structure false mask k)

  -- inside, the new output has what the accumulator made
  abbrev pub WritesInside : Type 0
  WritesInside =
      (inside : K → Bool) (replace : Bool) (accum : Option BinaryOp) (output computed : List (K × Value)) (k : K)
      → inside k ≡ true → find R k (written R inside replace accum output computed) ≡ find R k (accumulated R accum output computed)

  -- outside, without replace, the old output stays
  abbrev pub LeavesOutside : Type 0
  LeavesOutside =
      (inside : K → Bool) (accum : Option BinaryOp) (output computed : List (K × Value)) (k : K)
      → inside k ≡ false → find R k (written R inside false accum output computed) ≡ find R k output

  -- outside, with replace, nothing is left
  abbrev pub ClearsOutside : Type 0
  ClearsOutside =
      (inside : K → Bool) (accum : Option BinaryOp) (output computed : List (K × Value)) (k : K)
      → inside k ≡ false → find R k (written R inside true accum output computed) ≡ None

module _ {K : Type 0} (R : K → K → Ordering) (Within : K → Type 0) where
  -- entries in order of their places, each place one that is within, each value one of the domain
  pub record AreEntries (domain : Domain) (m : List (K × Value)) : Type 0 where
    pub ordered : IsTrue (is_sorted R m)
    pub within : All (λ e. Within e.0) m
    pub of_domain : All (λ e. IsValueOf domain e.1) m

  -- the results of eWiseAdd and eWiseMult are in order, within what both inputs are within, and of their domain
  abbrev pub EwiseMakesEntries : Type 0
  EwiseMakesEntries =
      (op : BinaryOp) (a b : List (K × Value)) → AreEntries (op_domain op) a → AreEntries (op_domain op) b
      → AreEntries (op_domain op) (ewise_add R op a b) × AreEntries (op_domain op) (ewise_mult R op a b)

  -- and so is a new output
  abbrev pub WrittenMakesEntries : Type 0
  WrittenMakesEntries =
      (domain : Domain) (inside : K → Bool) (replace : Bool) (accum : Option BinaryOp) (output computed : List (K × Value))
      → AccumulatesIn domain accum → AreEntries domain output → AreEntries domain computed → AreEntries domain (written R inside replace accum output computed)

-- the same of the entries of a vector and of a matrix, with their dimensions
abbrev pub AreVectorEntries : ℕ → Domain → VectorEntries → Type 0
AreVectorEntries size domain u = AreEntries nat_cmp (IsBelow size) domain u

abbrev pub AreMatrixEntries : ℕ → ℕ → Domain → MatrixEntries → Type 0
AreMatrixEntries nrows ncols domain a = AreEntries cell_cmp (IsCellBelow nrows ncols) domain a

-- a product of a matrix and a vector is in order, within the matrix's rows, and of the semiring's domain
abbrev pub MxvMakesEntries : Type 0
MxvMakesEntries =
    (nrows ncols : ℕ) (s : SemiringParts) (a : MatrixEntries) (u : VectorEntries) → monoid_domain s.monoid ≡ op_domain s.op
    → AreMatrixEntries nrows ncols (op_domain s.op) a → AreVectorEntries ncols (op_domain s.op) u → AreVectorEntries nrows (op_domain s.op) (mxv_of s a u)

-- a product of two matrices is so, within the first one's rows and the second one's columns
abbrev pub MxmMakesEntries : Type 0
MxmMakesEntries =
    (nrows inner ncols : ℕ) (s : SemiringParts) (a b : MatrixEntries) → monoid_domain s.monoid ≡ op_domain s.op
    → AreMatrixEntries nrows inner (op_domain s.op) a → AreMatrixEntries inner ncols (op_domain s.op) b
    → AreMatrixEntries nrows ncols (op_domain s.op) (mxm_of s a b)

-- a reduction of rows is so, within the matrix's rows
abbrev pub ReduceRowsMakesEntries : Type 0
ReduceRowsMakesEntries =
    (nrows ncols : ℕ) (m : Monoid) (a : MatrixEntries) → AreMatrixEntries nrows ncols (monoid_domain m) a → AreVectorEntries nrows (monoid_domain m) (reduce_rows_of m a)

-- a reduction to a scalar is a value of the monoid's domain
abbrev pub ReduceMakesValue : Type 0
ReduceMakesValue =
    (m : Monoid)
    → ((u : VectorEntries) → All (λ e. IsValueOf (monoid_domain m) e.1) u → IsValueOf (monoid_domain m) (reduce_of m u))
    × ((a : MatrixEntries) → All (λ e. IsValueOf (monoid_domain m) e.1) a → IsValueOf (monoid_domain m) (reduce_of m a))
