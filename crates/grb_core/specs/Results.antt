-- believed: What the operations compute, before it is written: GraphBLAS C API 2.0, "eWiseAdd", "eWiseMult", "mxv", "mxm" and
-- "reduce". An entry that is not stored takes no part: it is not 0.
use Rattle.std.specs.Prelude.{ℕ, Bool, if◌then◌else◌, nat_eq, List, [], ◌∷◌, ◌++◌, map, filter, Option}
use Rattle.std.specs.Ordering.{nat_cmp}
use Rattle.std.specs.declared.cmp.Ordering.{Ordering}
use Rattle.grb_core.specs.declared.operator.BinaryOp.{BinaryOp}
use Rattle.grb_core.specs.declared.monoid.Monoid.{Monoid}
use Rattle.grb_core.specs.declared.value.Value.{Value}
use Rattle.grb_core.specs.Operator.{value_of_op}
use Rattle.grb_core.specs.Entries.{Cell, cell_cmp, VectorEntries, MatrixEntries, map_from, places_of, map_on, values_of}
use Rattle.grb_core.specs.Fold.{fold_of, fold_of_some}
use Rattle.grb_core.specs.Semiring.{SemiringParts}
use Rattle.grb_core.specs.Written.{pointwise, either_value, both_values}

module _ {K : Type 0} (R : K → K → Ordering) where
  -- eWiseAdd: over the union of the places, op(a, b) where both are stored, else the one value
  abbrev pub ewise_add : BinaryOp → List (K × Value) → List (K × Value) → List (K × Value)
  ewise_add op a b = pointwise R (either_value (value_of_op op)) a b

  -- eWiseMult: over the intersection of the places, op(a, b)
  abbrev pub ewise_mult : BinaryOp → List (K × Value) → List (K × Value) → List (K × Value)
  ewise_mult op a b = pointwise R (both_values (value_of_op op)) a b

-- a row of a matrix, by column
abbrev pub row_of : ℕ → MatrixEntries → VectorEntries
row_of i a = map (λ e. (e.0.1, e.1)) (filter (λ e. nat_eq e.0.0 i) a)

-- a column of a matrix, by row
abbrev pub column_of : ℕ → MatrixEntries → VectorEntries
column_of j a = map (λ e. (e.0.0, e.1)) (filter (λ e. nat_eq e.0.1 j) a)

-- the rows and the columns in which something is stored, each once and in rising order
abbrev pub rows_of : MatrixEntries → List ℕ
rows_of a = places_of nat_cmp (map (λ e. (e.0.0, e.1)) a)

abbrev pub columns_of : MatrixEntries → List ℕ
columns_of a = places_of nat_cmp (map (λ e. (e.0.1, e.1)) a)

-- the cells of these rows and columns, by row
abbrev pub cells_between : List ℕ → List ℕ → List Cell
cells_between [] js = []
cells_between (i ∷ is) js = map (λ j. (i, j)) js ++ cells_between is js

-- the transposed matrix: the value at row i and column j stands at row j and column i
abbrev pub turned_entry : Cell × Value → Cell × Value
turned_entry e = ((e.0.1, e.0.0), e.1)

abbrev pub transposed : MatrixEntries → MatrixEntries
transposed a = map_from cell_cmp (map turned_entry a)

-- a first input, transposed where the descriptor says so (GrB_TRAN of GrB_INP0)
abbrev pub turned : Bool → MatrixEntries → MatrixEntries
turned tran a = if tran then transposed a else a

-- the monoid's fold of op(x(k), y(k)) over the k stored in both, and nothing where there is no such k
abbrev pub product_of : SemiringParts → VectorEntries → VectorEntries → Option Value
product_of s x y = fold_of_some s.monoid (values_of (ewise_mult nat_cmp s.op x y))

-- each row of a matrix made into one value, or nothing
abbrev pub each_row : (VectorEntries → Option Value) → MatrixEntries → VectorEntries
each_row f a = map_on (rows_of a) (λ i. f (row_of i a))

-- mxv: each row of the matrix with the vector
abbrev pub mxv_of : SemiringParts → MatrixEntries → VectorEntries → VectorEntries
mxv_of s a u = each_row (λ x. product_of s x u) a

-- each column of a matrix made into one value, or nothing
abbrev pub each_column : (VectorEntries → Option Value) → MatrixEntries → VectorEntries
each_column f a = map_on (columns_of a) (λ j. f (column_of j a))

-- vxm: the vector with each column of the matrix
abbrev pub vxm_of : SemiringParts → VectorEntries → MatrixEntries → VectorEntries
vxm_of s u a = each_column (λ x. product_of s u x) a

-- mxm: each row of the first matrix with each column of the second
abbrev pub mxm_of : SemiringParts → MatrixEntries → MatrixEntries → MatrixEntries
mxm_of s a b = map_on (cells_between (rows_of a) (columns_of b)) (λ cell. product_of s (row_of cell.0 a) (column_of cell.1 b))

-- reduce to a vector: the fold of each row, and nothing for a row without entries
abbrev pub reduce_rows_of : Monoid → MatrixEntries → VectorEntries
reduce_rows_of m a = each_row (λ x. fold_of_some m (values_of x)) a

-- reduce to a scalar: the fold of all entries, and the identity where there are none
abbrev pub reduce_of : {K : Type 0} → Monoid → List (K × Value) → Value
reduce_of m entries = fold_of m (values_of entries)
