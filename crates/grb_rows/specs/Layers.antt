-- believed: What an object stores where changes wait (own): entries in order, changes over them, and where among the entries those are that
-- were changed.
use Rattle.std.specs.Prelude.{◌≡◌, ◌≢◌, ℕ, ◌<◌, Bool, nat_eq, List, [], ◌∷◌, ◌++◌, length, slice_index_or, Option, Some, None, is_some, IsTrue, AllPairs}
use Rattle.std.specs.List.{list_any}
use Rattle.std.specs.Ordering.{nat_cmp}
use Rattle.std.specs.FinMap.{is_sorted}
use Rattle.grb_core.specs.declared.value.Value.{Value}
use Rattle.grb_core.specs.Entries.{VectorEntries}
use Rattle.grb_rows.specs.Pending.{Change, last_at}

-- whether a place is one of those listed
abbrev pub is_listed : List ℕ → ℕ → Bool
is_listed places q = list_any (nat_eq q) places

-- the places listed are, of the entries, those whose cells have a change
abbrev pub IsPlaced : VectorEntries → List ℕ → List Change → Type 0
IsPlaced entries places cs = (q : ℕ) (d : ℕ × Value) → q < length entries → is_listed places q ≡ is_some (last_at (slice_index_or entries q d).0 cs)

-- no two changes are of one cell
abbrev pub AreApart : List Change → Type 0
AreApart cs = AllPairs (λ c d. c.0 ≢ d.0) cs

-- entries in order and changes of them, of which no two are of one cell; the places listed are, of the entries, those that have a change
pub record IsChanged (entries : VectorEntries) (places : List ℕ) (cs : List Change) : Type 0 where
  pub ordered : IsTrue (is_sorted nat_cmp entries)
  pub apart : AllPairs (λ c d. c.0 ≢ d.0) cs
  pub placed : (q : ℕ) (d : ℕ × Value) → q < length entries → is_listed places q ≡ is_some (last_at (slice_index_or entries q d).0 cs)

-- the places listed after one more change, of a cell that may have one, and may stand at a place
abbrev pub placed_after : Option (Option Value) → Option ℕ → List ℕ → List ℕ
placed_after None (Some at) places = places ++ at ∷ []
placed_after None None places = places
placed_after (Some change) place places = places
