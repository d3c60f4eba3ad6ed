-- believed: Sums by column (own): each column that is summed has a place, and at its place there lies the
-- fold of what was added to it so far.
use Rattle.std.specs.Prelude.{◌≡◌, ℕ, zero, suc, ◌<◌, if◌then◌else◌, List, [], ◌∷◌, None, length, slice_index, slice_index_or, map}
use Rattle.std.specs.List.{AllByRecursion}
use Rattle.std.specs.Ordering.{nat_cmp}
use Rattle.grb_core.specs.declared.value.Value.{Value}
use Rattle.grb_core.specs.declared.monoid.Monoid.{Monoid}
use Rattle.grb_core.specs.Value.{IsValueOf}
use Rattle.grb_core.specs.Monoid.{monoid_domain}
use Rattle.grb_core.specs.Fold.{fold_of, fold_of_some}
use Rattle.grb_core.specs.Entries.{VectorEntries, MatrixEntries, map_on, values_at}
use Rattle.grb_sums.specs.Bits.{is_marked, value_at}

-- the numbers below n
abbrev pub numbers_from : ℕ → ℕ → List ℕ
numbers_from j zero = []
numbers_from j (suc n) = j ∷ numbers_from (suc j) n

abbrev pub numbers_below : ℕ → List ℕ
numbers_below n = numbers_from 0 n

-- what was added to these columns, in the order in which it was: the fold of what came to each
abbrev pub column_folds : Monoid → List ℕ → VectorEntries → VectorEntries
column_folds m names added = map_on names (λ j. fold_of_some m (values_at nat_cmp j added))

-- entries whose values a term has changed
abbrev pub with_values : (Value → Value) → VectorEntries → VectorEntries
with_values f m = map (λ e. (e.0, f e.1)) m

-- values with their columns, as entries
abbrev pub as_entries : {V : Type 0} → (V → Value) → List (ℕ × V) → VectorEntries
as_entries tv ps = map (λ p. (p.0, tv p.1)) ps

-- the entries of a matrix in their order, each at its column
abbrev pub by_column : MatrixEntries → VectorEntries
by_column a = map (λ e. (e.0.1, e.1)) a

-- at the place of each column lies the fold of what was added to it, and the place is marked where something was; so the identity lies
-- where nothing was
pub record AreSums {V : Type 0} (tv : V → Value) (m : Monoid) (names : List ℕ) (added : VectorEntries) (words : List ℕ) (sums : List V) : Type 0 where
  pub held : (p : ℕ) → p < length names → (if is_marked words p then value_at tv sums p else None) ≡ fold_of_some m (values_at nat_cmp (slice_index names p) added)
  pub summed : (p : ℕ) (d : V) → p < length names → tv (slice_index_or sums p d) ≡ fold_of m (values_at nat_cmp (slice_index names p) added)
  pub of_domain : (p : ℕ) → p < length names → AllByRecursion (IsValueOf (monoid_domain m)) (values_at nat_cmp (slice_index names p) added)
