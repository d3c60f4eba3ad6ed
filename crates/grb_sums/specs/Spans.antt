-- believed: Where the entries of each row begin and end, by the row's number, and when starts of rows are
-- listed (own).
use Rattle.std.specs.Prelude.{◌≡◌, ℕ, ◌+◌, ◌-◌, ◌*◌, ◌^◌, ◌<◌, ◌≤◌, List, [], length, take, drop, slice_index}
use Rattle.grb_core.specs.Entries.{VectorEntries}
use Rattle.grb_core.specs.Results.{row_of}
use Rattle.grb_lists.specs.Cells.{decoded, in_row}

-- at the number of a row its entries begin, and at the next number they end; a row of no such number has none
pub record AreSpans (entries : VectorEntries) (spans : List ℕ) : Type 0 where
  pub row : (r : ℕ) → r + 1 < length spans → row_of r (decoded entries) ≡ in_row (drop (slice_index spans r) (take (slice_index spans (r + 1)) entries))
  pub up : (r : ℕ) → r + 1 < length spans → slice_index spans r ≤ slice_index spans (r + 1)
  pub within : (r : ℕ) → r < length spans → slice_index spans r ≤ length entries
  pub beyond : (r : ℕ) → length spans ≤ r + 1 → row_of r (decoded entries) ≡ []

-- one start for each number up to the last of the rows, and one more
abbrev pub spans_needed : List ℕ → ℕ
spans_needed rows = slice_index rows (length rows - 1) + 2

-- a list of starts is made: there are rows, its length and all places have 32 bits, and it is no longer than 8 times a number of entries
pub record AreWorthSpans (rows : List ℕ) (len entries : ℕ) : Type 0 where
  pub some : 0 < length rows
  pub places : len < 2 ^ 32
  pub numbers : spans_needed rows < 2 ^ 32
  pub few : spans_needed rows ≤ 8 * entries
