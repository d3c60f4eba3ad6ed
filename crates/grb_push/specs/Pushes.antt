-- believed: What the entries of a vector make of the rows of a matrix that they pick (own).
use Rattle.std.specs.Prelude.{ℕ, List, [], ◌∷◌, ◌++◌, map, slice_index}
use Rattle.std.specs.Ordering.{nat_cmp}
use Rattle.grb_core.specs.declared.value.Value.{Value}
use Rattle.grb_core.specs.declared.monoid.Monoid.{Monoid}
use Rattle.grb_core.specs.Fold.{fold_of_some}
use Rattle.grb_core.specs.Entries.{VectorEntries, MatrixEntries, values_of}
use Rattle.grb_core.specs.Written.{pointwise, both_values}
use Rattle.grb_core.specs.Results.{row_of, each_column}
use Rattle.grb_sums.specs.ColumnSums.{with_values}

-- for each entry of a vector the row of its index, with f(x, y) in place of each value y, where x is the entry's own; one row after
-- another
abbrev pub pushed : (Value → Value → Value) → VectorEntries → MatrixEntries → VectorEntries
pushed f [] a = []
pushed f (e ∷ u) a = with_values (f e.1) (row_of e.0 a) ++ pushed f u a

-- at each column the fold of f(x, y) where the vector stores x and the column y
abbrev pub pushed_of : Monoid → (Value → Value → Value) → VectorEntries → MatrixEntries → VectorEntries
pushed_of m f u a = each_column (λ c. fold_of_some m (values_of (pointwise nat_cmp (both_values f) u c))) a

-- entries at places of a list, each at the number there
abbrev pub at_numbers : List ℕ → VectorEntries → VectorEntries
at_numbers numbers m = map (λ e. (slice_index numbers e.0, e.1)) m

-- the columns of the rows whose numbers stand at the places of these picks, one row after another
abbrev pub columns_at : {V : Type 0} → List ℕ → List (ℕ × V) → MatrixEntries → List ℕ
columns_at numbers [] a = []
columns_at numbers (p ∷ ps) a = map (λ e. e.0) (row_of (slice_index numbers p.0) a) ++ columns_at numbers ps a
