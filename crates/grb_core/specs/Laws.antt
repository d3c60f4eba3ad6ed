-- believed: What a user relies on: laws of the operations on stored entries, over all maps, places and values. `laws.rt` promises
-- each. In a vector `R` is `nat_cmp`, and in a matrix `cell_cmp`.
use Rattle.std.specs.Prelude.{◌≡◌, ◌≢◌, ℕ, ◌<◌, ◌≤◌, List, [], ◌∷◌, ◌++◌, Some, None, All, AllPairs}
use Rattle.std.specs.declared.cmp.Ordering.{Ordering}
use Rattle.std.specs.Ordering.{nat_cmp}
use Rattle.std.specs.List.Sorted.{IsPermutation}
use Rattle.std.specs.FinMap.{find, put}
use Rattle.grb_core.specs.declared.value.Value.{Value}
use Rattle.grb_core.specs.declared.monoid.Monoid.{Monoid}
use Rattle.grb_core.specs.Value.{IsValueOf}
use Rattle.grb_core.specs.Operator.{value_of_op}
use Rattle.grb_core.specs.Monoid.{monoid_op, monoid_domain}
use Rattle.grb_core.specs.Fold.{fold_of, fold_of_some}
use Rattle.grb_core.specs.Entries.{cell_cmp, without_entry, values_at, built_from}
use Rattle.grb_core.specs.Contents.{Vector, Matrix, resized_vector, resized_matrix}

-- each value is one of the monoid's domain
abbrev pub AreOf : Monoid → List Value → Type 0
AreOf m vs = All (IsValueOf (monoid_domain m)) vs

-- a list is folded in parts: its first part, and then its second
abbrev pub FoldsInParts : Type 0
FoldsInParts =
    (m : Monoid) (us vs : List Value) → AreOf m us → AreOf m vs → fold_of m (us ++ vs) ≡ value_of_op (monoid_op m) (fold_of m us) (fold_of m vs)

-- the same values in another order have the same fold
abbrev pub FoldsInAnyOrder : Type 0
FoldsInAnyOrder = (m : Monoid) (us vs : List Value) → AreOf m us → IsPermutation us vs → fold_of m us ≡ fold_of m vs

module _ {K : Type 0} where
  -- each value of the tuples is one of the monoid's domain
  abbrev pub BringValuesOf : Monoid → List (K × Value) → Type 0
  BringValuesOf m es = All (λ e. IsValueOf (monoid_domain m) e.1) es

  -- no two of the tuples have one place
  abbrev pub HavePlacesApart : List (K × Value) → Type 0
  HavePlacesApart es = AllPairs (λ d e. d.0 ≢ e.0) es

  module _ (R : K → K → Ordering) where
    -- the map after each tuple is set in turn
    abbrev pub set_all : List (K × Value) → List (K × Value) → List (K × Value)
    set_all m [] = m
    set_all m (e ∷ es) = set_all (put R e.0 e.1 m) es

    -- a value that was set is there, and every other place has what it had
    abbrev pub SetThenGet : Type 0
    SetThenGet =
        (m : List (K × Value)) (k : K) (v : Value)
        → (find R k (put R k v m) ≡ Some v) × ((q : K) → q ≢ k → find R q (put R k v m) ≡ find R q m)

    -- a removed entry is not there, and every other place has what it had
    abbrev pub RemoveThenGet : Type 0
    RemoveThenGet =
        (m : List (K × Value)) (k : K)
        → (find R k (without_entry R k m) ≡ None) × ((q : K) → q ≢ k → find R q (without_entry R k m) ≡ find R q m)

    -- a build stores at each place the fold of the values that its list has there, and nothing where it has none
    abbrev pub BuildStoresFolds : Type 0
    BuildStoresFolds = (dup : Monoid) (es : List (K × Value)) (k : K) → find R k (built_from R dup es) ≡ fold_of_some dup (values_at R k es)

    -- where no place stands twice, a build is the sets of its tuples
    abbrev pub BuildIsSets : Type 0
    BuildIsSets = (dup : Monoid) (es : List (K × Value)) → HavePlacesApart es → BringValuesOf dup es → built_from R dup es ≡ set_all [] es

    -- the same tuples in another order build the same
    abbrev pub BuildsInAnyOrder : Type 0
    BuildsInAnyOrder =
        (dup : Monoid) (es fs : List (K × Value)) → BringValuesOf dup es → IsPermutation es fs → built_from R dup es ≡ built_from R dup fs

-- a vector of one size and then of another has below both what it had, and nothing elsewhere
abbrev pub VectorResizedTwice : Type 0
VectorResizedTwice =
    (v : Vector) (size next i : ℕ)
    → let stored = find nat_cmp i (resized_vector next (resized_vector size v)).entries in
    (i < size → i < next → stored ≡ find nat_cmp i v.entries) × (size ≤ i → stored ≡ None) × (next ≤ i → stored ≡ None)

-- the same of a matrix, by rows and by columns
abbrev pub MatrixResizedTwice : Type 0
MatrixResizedTwice =
    (a : Matrix) (nrows ncols next_nrows next_ncols i j : ℕ)
    → let stored = find cell_cmp (i, j) (resized_matrix next_nrows next_ncols (resized_matrix nrows ncols a)).entries in
    (i < nrows → j < ncols → i < next_nrows → j < next_ncols → stored ≡ find cell_cmp (i, j) a.entries)
    × (nrows ≤ i → stored ≡ None)
    × (ncols ≤ j → stored ≡ None)
    × (next_nrows ≤ i → stored ≡ None)
    × (next_ncols ≤ j → stored ≡ None)
