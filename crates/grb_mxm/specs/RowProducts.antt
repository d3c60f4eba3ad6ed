-- inside: no public contract names it. Rows of the product of two matrices, how many products a row has, and what is read of a mask (own).
use Rattle.std.specs.Prelude.{ℕ, Some, None, List, [], ◌∷◌, Option, length, map}
use Rattle.std.specs.List.{sum_by}
use Rattle.grb_core.specs.declared.value.Value.{Value}
use Rattle.grb_core.specs.Entries.{VectorEntries, MatrixEntries, before_entries, map_on}
use Rattle.grb_core.specs.Results.{row_of, columns_of, column_of, product_of}
use Rattle.grb_core.specs.Semiring.{SemiringParts}

-- a row with each column of a matrix
abbrev pub product_row : SemiringParts → VectorEntries → MatrixEntries → VectorEntries
product_row s x b = map_on (columns_of b) (λ j. product_of s x (column_of j b))

-- how many products a row of these columns has with the rows of a matrix: one for each entry of each row
abbrev pub products_count : List ℕ → MatrixEntries → ℕ
products_count columns b = sum_by (λ k. length (row_of k b)) columns

-- what stands at these places, each at its name
abbrev pub picked : (ℕ → ℕ) → (ℕ → Option Value) → List ℕ → VectorEntries
picked name at [] = []
picked name at (p ∷ ps) = before_entries (name p) (at p) (picked name at ps)

-- the columns that a mask stores, entry by entry; none, where there is no mask
abbrev pub columns_in : Option MatrixEntries → List ℕ
columns_in None = []
columns_in (Some mask) = map (λ e. e.0.1) mask
