-- believed: Names of places, and rows whose columns are places with names (own).
use Rattle.std.specs.Prelude.{ℕ, zero, suc, List, map, slice_index}
use Rattle.grb_core.specs.Entries.{VectorEntries}
use Rattle.grb_sums.specs.ColumnSums.{numbers_below}

-- the name of a place in a list of names
abbrev pub name_in : List ℕ → ℕ → ℕ
name_in names p = slice_index names p

-- names of a list, or for each place below a number its own
abbrev pub names_list : ℕ → List ℕ → List ℕ
names_list zero listed = listed
names_list (suc own) listed = numbers_below (suc own)

-- entries at the names of their places
abbrev pub renamed : (ℕ → ℕ) → VectorEntries → VectorEntries
renamed name m = map (λ e. (name e.0, e.1)) m
