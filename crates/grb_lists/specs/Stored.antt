-- believed: The stored entries of a vector as flat lists (own): indices in rising order, and the value of each.
use Rattle.std.specs.Prelude.{◌≡◌, ℕ, ◌+◌, ◌/◌, ◌^◌, ◌<◌, Bool, List, [], ◌∷◌, drop, length, map, take, slice_index, slice_index_or}
use Rattle.grb_core.specs.declared.value.Value.{Value}
use Rattle.grb_core.specs.declared.value.Value.TheVariants as value
use Rattle.grb_core.specs.declared.domain.Domain.{Domain}
use Rattle.grb_core.specs.Entries.{VectorEntries}
use Rattle.grb_core.specs.Results.{row_of}
use Rattle.grb_lists.specs.Cells.{decoded}

-- each index with its value
abbrev pub paired : List ℕ → List Value → VectorEntries
paired [] vs = []
paired (k ∷ ks) [] = []
paired (k ∷ ks) (v ∷ vs) = (k, v) ∷ paired ks vs

-- each index with its truth value, and with its number
abbrev pub bool_entries : List ℕ → List Bool → VectorEntries
bool_entries ks bs = paired ks (map (λ b. value.Bool b) bs)

abbrev pub number_entries : List ℕ → List ℕ → VectorEntries
number_entries ks ns = paired ks (map (λ n. value.Uint64 n) ns)

-- the entry at a place is of the cell of this number
abbrev pub IsCellAt : VectorEntries → ℕ → ℕ → Type 0
IsCellAt m at k = (d : ℕ × Value) → k ≡ (slice_index_or m at d).0

-- the entries from the k'th start up to the next one, or to the end of all
abbrev pub started_at : List ℕ → ℕ → VectorEntries → VectorEntries
started_at starts k m = drop (slice_index starts k) (take (slice_index_or starts (k + 1) (length m)) m)

-- flat lists as their owner sees them: the entries, the rows that have some, their domain, and for how many more there is memory
pub record RowView : Type 0 where
  pub entries : VectorEntries
  pub rows : List ℕ
  pub domain : Domain
  pub room : ℕ

-- the entry at a place stands in the k'th row that has some
abbrev pub IsInRow : RowView → ℕ → ℕ → Type 0
IsInRow row k at = (k < length row.rows) × ((d : ℕ × Value) → (slice_index_or row.entries at d).0 / 2 ^ 32 ≡ slice_index row.rows k)

-- the entries of the k'th row that has some, each at its column
abbrev pub row_entries : RowView → ℕ → VectorEntries
row_entries row k = row_of (slice_index row.rows k) (decoded row.entries)
