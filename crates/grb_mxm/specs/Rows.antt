-- believed: The product of two matrices at the cells that a mask selects, the mask that bounds the work, and the rows of a matrix from one
-- up to another, as entries and as flat lists (own).
use Rattle.std.specs.Prelude.{◌≡◌, ◌<◌, ◌&&◌, ◌++◌, ℕ, Bool, not, nat_lt, if◌then◌else◌, Some, None, List, Option, length, slice_index}
use Rattle.grb_core.specs.declared.value.Value.{Value}
use Rattle.grb_core.specs.Entries.{Cell, MatrixEntries, cell_cmp, restricted}
use Rattle.grb_core.specs.Mask.{is_selected}
use Rattle.grb_core.specs.Results.{mxm_of}
use Rattle.grb_core.specs.Semiring.{SemiringParts}
use Rattle.grb_lists.specs.Cells.{IsFlat}
use Rattle.grb_ewise.specs.Rows.{flat_entries}

-- the product of two matrices at the cells that a mask selects; at all, where there is no mask
abbrev pub selected_product : SemiringParts → Bool → Option MatrixEntries → MatrixEntries → MatrixEntries → MatrixEntries
selected_product s structure None a b = mxm_of s a b
selected_product s structure (Some mask) a b = restricted (is_selected cell_cmp structure (Some mask)) (mxm_of s a b)

-- the mask that bounds the work: none, where its complement is meant
abbrev pub bounding : Bool → Option MatrixEntries → Option MatrixEntries
bounding comp mask = if comp then None else mask

-- the row is from one on and below another
abbrev pub is_between : ℕ → ℕ → ℕ → Bool
is_between from upto i = not (nat_lt i from) && nat_lt i upto

-- the entries of the rows from one up to another
abbrev pub rows_between : ℕ → ℕ → MatrixEntries → MatrixEntries
rows_between from upto m = restricted (λ (q : Cell). is_between from upto q.0) m

-- lists that lie as those of a matrix do, of rows below a number
pub record AreBelow {V : Type 0} (upto : ℕ) (rows starts columns : List ℕ) (values : List V) : Type 0 where
  pub flat : IsFlat rows starts columns
  pub same : length columns ≡ length values
  pub below : (n : ℕ) → n < length rows → slice_index rows n < upto

-- lists of rows below a number that have these entries and then those of the rows of a matrix from another number up to it
pub record AreAppended {V : Type 0} (tv : V → Value) (before : MatrixEntries) (from upto : ℕ) (m : MatrixEntries) (rows starts columns : List ℕ) (values : List V) : Type 0 where
  pub lists : AreBelow upto rows starts columns values
  pub entries : flat_entries tv rows starts columns values ≡ before ++ rows_between from upto m
