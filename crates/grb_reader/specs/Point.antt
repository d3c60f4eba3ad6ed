-- believed: The point of a call. Herlihy and Wing, "Linearizability", 1990: each operation takes effect at one step between its
-- call and its return.
use Rattle.std.specs.Prelude.{◌≡◌, ℕ, ◌+◌, List, [], ◌∷◌, ◌++◌, length, ◌⊎◌}
use Rattle.grb_order.specs.Word.{StartsWith}
use Rattle.grb_order.specs.declared.view.View.{View}
use Rattle.grb_call.specs.History.{History}

-- the list grew, and its last is now n
abbrev pub GrewTo : List ℕ → List ℕ → ℕ → Type 0
GrewTo old new n = (more : List ℕ) × (new ≡ (old ++ more) ++ n ∷ [])

-- Between these views there was a step at which the order held just g: a load that found the word after g to be 0, or the
-- compare-and-swap that entered the word after g; or the order was full of g
abbrev pub IsAtPoint : ℕ → View → View → History → Type 0
IsAtPoint room old new g =
    (GrewTo old.looks new.looks (length g) × (length new.words ≡ length g))
    ⊎ ((new.own ≡ old.own ++ length g ∷ []) × (length new.words ≡ length g + 1))
    ⊎ (length g ≡ room)

-- the view of one seat, later: all that it had seen stands at the front of what it has seen
pub record Grows (old new : View) : Type 0 where
  pub number : new.number ≡ old.number
  pub passes : new.passes ≡ old.passes
  pub words : StartsWith new.words old.words
  pub own : StartsWith new.own old.own
  pub looks : StartsWith new.looks old.looks
