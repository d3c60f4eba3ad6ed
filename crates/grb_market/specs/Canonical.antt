-- believed: The canonical text of a matrix (own): the first line of its domain, the size line, and a line for each stored entry in
-- rising order of row and then column; one space between numbers, no leading zeros, no comments.
use Rattle.std.specs.Prelude.{ℕ, Bool, not, false, List, [], ◌∷◌, ◌++◌, length, map, codes, decimal}
use Rattle.std.specs.List.{flat_map, list_any, join_with_byte}
use Rattle.grb_core.specs.declared.domain.Domain.{Domain}
use Rattle.grb_core.specs.declared.domain.Domain.TheVariants as domain
use Rattle.grb_core.specs.declared.value.Value.{Value}
use Rattle.grb_core.specs.declared.value.Value.TheVariants as value
use Rattle.grb_core.specs.Entries.{Cell}
use Rattle.grb_core.specs.Contents.{Matrix}
use Rattle.grb_market.specs.Spells.{numbers_stated}

abbrev pub first_line : Domain → List ℕ
first_line domain.Uint64 = codes "%%MatrixMarket matrix coordinate integer general"
first_line domain.Bool = codes "%%MatrixMarket matrix coordinate pattern general"

-- numbers with one space between them
abbrev pub spaced : List ℕ → List ℕ
spaced numbers = join_with_byte 32 (map decimal numbers)

abbrev pub size_text : Matrix → List ℕ
size_text m = spaced (m.nrows ∷ m.ncols ∷ length m.entries ∷ [])

abbrev pub entry_text : Cell × Value → List ℕ
entry_text e = spaced (numbers_stated e)

-- a line and its end
abbrev pub line_text : List ℕ → List ℕ
line_text line = line ++ 10 ∷ []

abbrev pub canonical_lines : Matrix → List (List ℕ)
canonical_lines m = first_line m.domain ∷ size_text m ∷ map entry_text m.entries

-- the canonical text
abbrev pub canonical : Matrix → List ℕ
canonical m = flat_map line_text (canonical_lines m)

-- a false is stored, which no file can state
abbrev pub is_false : Value → Bool
is_false (value.Bool b) = not b
is_false (value.Uint64 n) = false

abbrev pub stores_false : Matrix → Bool
stores_false m = list_any (λ e. is_false e.1) m.entries

-- the lines of these entries
abbrev pub entry_lines : List (Cell × Value) → List ℕ
entry_lines entries = flat_map (λ e. line_text (entry_text e)) entries
