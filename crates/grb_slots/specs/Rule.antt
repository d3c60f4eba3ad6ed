-- inside: no public contract names it. The rule of a row of slots, and what the steps tell that close one and open it.
use Rattle.std.specs.Prelude.{ℕ, ◌≡◌, ◌≢◌, ◌<◌, List, [], ◌∷◌, length, slice_get, slice_index, Option, Some, None, MatchOption}
use mathlib.Core.Option.{some}
use mathlib.Core.Option.{Option as Home}
use lib.ListN.{get_elem?}
use Rattle.atomic_table.specs.Table.{Me, State}
use Rattle.grb_slots.specs.declared.rule.Visitor.{Visitor}

-- what a thread knows that visited no slot
abbrev pub no_visit : {X T : Type 0} → T → Visitor X T
no_visit tag = record { tag = tag; at = 0; found = None; left = None }

-- who visits a slot finds what lies there, and what it left lies there then; where it has left nothing yet, nothing does
abbrev pub Passes : {X T : Type 0} → ℕ → Option X → Visitor X T → Option X → Type 0
Passes k before visitor after = MatchOption visitor.found (after ≡ before) (λ x. (visitor.at ≡ k → (before ≡ Some x) × (after ≡ visitor.left)) × (visitor.at ≢ k → after ≡ before))

-- what lies in a slot after all of these, one after another
abbrev pub Comes : {X T : Type 0} → ℕ → Option X → List (Visitor X T) → Option X → Type 0
Comes k before [] after = after ≡ before
Comes {X} k before (visitor ∷ visitors) after = (between : Option X) × Passes k before visitor between × Comes k between visitors after

-- where something lies in a slot its word is 0, and that is at home and fits; and where nothing does the word is not 0
abbrev pub Lies : {X : Type 0} → (X → Type 0) → ℕ → Home (Home (Option X)) → Option X → Type 0
Lies fits word home None = word ≢ 0
Lies fits word home (Some x) = (word ≡ 0) × (home ≡ some (some (Some x))) × fits x

-- there is a word for each slot, and in each lies what came of its first value by all visits
pub record IsKept {X T : Type 0} (fits : ℕ → X → Type 0) (first : List X) (s : State (Option X) (Visitor X T)) : Type 0 where
  pub wide : length s.words ≡ length s.homes
  pub many : length s.homes ≡ length first
  pub lie : (k : ℕ) → k < length s.homes → (now : Option X) × Comes k (slice_get first k) s.views now × Lies (fits k) (slice_index s.words k) (get_elem? s.homes k) now

-- where the word was 0, the slot of that index is all that the thread has, with a value that fits, and the thread knows what it found
abbrev pub closed : {X T : Type 0} → (ℕ → X → Type 0) → T → ℕ → ℕ → Me (Option X) (Visitor X T) → Type 0
closed {X} fits tag word found after = found ≡ 0 → (x : X) × (after ≡ (record { tag = tag; at = word; found = Some x; left = None }, (word, Some x) ∷ [])) × fits word x

-- the thread has no slot any more, and knows what it left
abbrev pub opened : {X T : Type 0} → Me (Option X) (Visitor X T) → Me (Option X) (Visitor X T) → Type 0
opened {X} before after = (k : ℕ) (x : X) → before.1 ≡ (k, Some x) ∷ [] → after ≡ (record { tag = before.0.tag; at = before.0.at; found = before.0.found; left = Some x }, [])
