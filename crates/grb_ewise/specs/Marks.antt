-- inside: no public contract names it. Marks of columns, and the entries of a row that stand at some columns (own).
use Rattle.std.specs.Prelude.{◌≡◌, ℕ, Bool, true, false, List, [], ◌∷◌, All, slice_set, slice_index_or}
use Rattle.grb_core.specs.Entries.{VectorEntries, restricted}

-- marks, with each of these columns marked or not
abbrev pub marked : Bool → List ℕ → List Bool → List Bool
marked here [] marks = marks
marked here (j ∷ js) marks = marked here js (slice_set marks j here)

-- no column is marked
abbrev pub AreClear : List Bool → Type 0
AreClear marks = (j : ℕ) → slice_index_or marks j false ≡ false

-- what is left of a row that is cut to some columns, these among them
pub record IsCutTo (columns : List ℕ) (row left : VectorEntries) : Type 0 where
  pub test : ℕ → Bool
  pub all : All (λ j. test j ≡ true) columns
  pub entries : left ≡ restricted test row
