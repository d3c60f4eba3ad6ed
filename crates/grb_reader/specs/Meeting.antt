-- believed: What a meeting of two passes of one context leaves (own).
use Rattle.std.specs.Prelude.{◌≡◌, ℕ, ◌+◌, List, length, Result, Ok, Err, Some, slice_get}
use Rattle.grb_core.specs.declared.refusal.Refusal.{Refusal}
use Rattle.grb_core.specs.declared.refusal.Refusal.TheVariants.{Panic}
use Rattle.grb_records.specs.Token.{Shown, IsSameRecord}
use Rattle.grb_reader.specs.Known.{Shared, Knowing, known, calls_by, none_made, IsKnown, IsPassOf}
use Rattle.grb_reader.specs.Explains.{IsUnshown}
use Rattle.grb_reader.specs.Laws.{Begins}
use Rattle.grb_reader.specs.Learning.{Learns}

-- where both lists have a token at this place, these are of one record
abbrev pub IsSameRecordAt : List Shown → List Shown → ℕ → Type 0
IsSameRecordAt a b at = (t u : Shown) → slice_get a at ≡ Some t → slice_get b at ≡ Some u → IsSameRecord t u

-- where two lists have a token of one record at this place, it has one call
abbrev pub SharesCallAt : List Shown → List Shown → ℕ → Type 0
SharesCallAt a b at = (t u : Shown) → slice_get a at ≡ Some t → slice_get b at ≡ Some u → IsSameRecord t u → t.call ≡ u.call

-- what the answer of a meeting says: what the other knew begins what the pass knows, which is the call of each word that it has learnt;
-- or a record is not there
abbrev pub IsMet : Knowing → Knowing → Result (Unit {0}) Refusal → Type 0
IsMet new other (Ok _) = Begins (known other) (known new) × (length (known new) ≡ length new.view.words)
IsMet new other (Err r) = (r ≡ Panic) × IsUnshown new

-- A meeting of a pass with another, with what it knows before and after. It is still a pass of the context. It learnt entries of
-- others alone, after what it knew, and its own calls and its statuses are those of before. Its steps on the order are the words that it
-- learnt, and it looked for no further one. It made no call
pub record Met (context : Shared) (old new other : Knowing) (r : Result (Unit {0}) Refusal) : Type 0 where
  pub pass : IsPassOf context new
  pub met : IsMet new other r
  pub learns : Learns old new
  pub knows : IsKnown context new
  pub own : calls_by old.view.number (known new) ≡ calls_by old.view.number (known old)
  pub steps : new.steps + length old.view.words ≡ length new.view.words
  pub looks : new.view.looks ≡ old.view.looks
  pub made : new.made ≡ none_made
