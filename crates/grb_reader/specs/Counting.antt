-- believed: How many atomic steps a call makes on the order (own). They are read off the view of the pass before and after it.
use Rattle.std.specs.Prelude.{◌≡◌, ℕ, ◌+◌, ◌-◌, ◌*◌, ◌<◌, ◌≤◌, List, [], ◌∷◌, ◌++◌, length, ◌⊎◌}
use Rattle.grb_order.specs.declared.view.View.{View}
use Rattle.grb_order.specs.declared.step.Look.{Look}
use Rattle.grb_order.specs.declared.step.Look.TheVariants.{Next, Vacant, Full}
use Rattle.grb_reader.specs.Known.{Knowing, known}
use Rattle.grb_reader.specs.Explains.{IsUnshown}

-- the steps that a view shows: one for each word learnt, and one for each look that found none
abbrev pub steps_of : View → ℕ
steps_of v = length v.words + length v.looks

-- the steps that a look made
abbrev pub look_steps : Look → ℕ
look_steps (Next word) = 1
look_steps Vacant = 1
look_steps Full = 0

-- the steps counted are those by which the view grew
abbrev pub Counts : Knowing → Knowing → Type 0
Counts old new = new.steps + steps_of old.view ≡ old.steps + steps_of new.view

-- these places rise strictly, from `first` on, and are below `end`
abbrev pub AreRising : ℕ → ℕ → List ℕ → Type 0
AreRising first end [] = Unit {0}
AreRising first end (at ∷ rest) = (first ≤ at) × (at < end) × AreRising (at + 1) end rest

-- where the words end that are known after a call, but for the one that it entered: that one stands there
abbrev pub others_end : View → View → ℕ
others_end old new = (length new.words + length old.own) - length new.own

-- the looks are `earlier` and a last one at `end`, where all records are shown; that one is missing just where a record was not shown, or
-- the order ends there
abbrev pub LooksLast : ℕ → List ℕ → ℕ → Knowing → Type 0
LooksLast room earlier end new = ((new.view.looks ≡ earlier ++ end ∷ []) × (end < room) × (length (known new) ≡ length new.view.words)) ⊎ ((new.view.looks ≡ earlier) × (IsUnshown new ⊎ (end ≡ room)))

-- The looks after `earlier` rise strictly, so no place was looked at twice. At each of `lost` the word of another was learnt since, as a
-- try was lost there. The last look is at the end of all words but the call's own
pub record LooksRise (room : ℕ) (earlier : List ℕ) (old new : Knowing) : Type 0 where
  pub lost : List ℕ
  pub rising : AreRising (length old.view.words) (others_end old.view new.view) lost
  pub looks : LooksLast room (earlier ++ lost) (others_end old.view new.view) new

-- The steps of the tries of a call, from the first one on: those by which the view grew. They follow a look, and with it the looks rise
pub record CountsTries (room : ℕ) (old new : Knowing) : Type 0 where
  pub count : Counts old new
  pub own : length old.view.own ≤ length new.view.own
  pub learnt : length old.view.words + length new.view.own ≤ length new.view.words + length old.view.own
  pub rise : (earlier : List ℕ) → old.view.looks ≡ earlier ++ length old.view.words ∷ [] → LooksRise room earlier old new

-- the steps of a call that only reads: one for each word learnt, and one more at the most
abbrev pub LooksOnce : Knowing → Knowing → Type 0
LooksOnce old new = new.steps + length old.view.words ≤ length new.view.words + 1

-- The steps of one call: those by which the view grew, and its looks rise. Where it learnt d words, they are d + 1 and one for each try
-- that was lost; where it found the order full, or a record was not shown, one less. So they are at most 2d + 1, and at most d + 1
-- where it learnt just what it entered itself
pub record CountsCall (room : ℕ) (old new : Knowing) : Type 0 where
  pub count : new.steps + steps_of old.view ≡ steps_of new.view
  pub rise : LooksRise room old.view.looks old new
  pub exact : length (known new) ≡ length new.view.words → others_end old.view new.view < room → new.steps + length old.view.words ≡ length new.view.words + 1 + length rise.lost
  pub full : others_end old.view new.view ≡ room → new.steps + length old.view.words ≡ length new.view.words + length rise.lost
  pub unshown : IsUnshown new → new.steps + length old.view.words ≡ length new.view.words + length rise.lost
  pub few : new.steps + 2 * length old.view.words ≤ 2 * length new.view.words + 1
  pub alone : length new.view.words + length old.view.own ≡ length old.view.words + length new.view.own → new.steps + length old.view.words ≤ length new.view.words + 1
