-- believed: What a page of a chronicle is: a chain's generations up to one, each of which follows the one before it (own).
use Rattle.std.specs.Prelude.{◌≡◌, ◌<◌, List, [], ◌∷◌, ◌++◌, length}
use mathlib.Core.List.{IsPrefix}
use Rattle.logbook.specs.Pages.{Book}

-- which chain it is, and what is told of each generation that was reached, from the first on
pub record Reached (E : Type 0) : Type 0 where
  pub chain : Book
  pub told : List E

-- these generations may come one after another, the first of them after this one
abbrev pub AreLinkedFrom : {E : Type 0} → (E → E → Type 0) → E → List E → Type 0
AreLinkedFrom follows before [] = Unit {0}
AreLinkedFrom follows before (next ∷ later) = follows before next × AreLinkedFrom follows next later

-- each generation may come after the one before it
abbrev pub AreLinked : {E : Type 0} → (E → E → Type 0) → List E → Type 0
AreLinked follows [] = Unit {0}
AreLinked follows (first ∷ later) = AreLinkedFrom follows first later

-- this is the last of these generations
abbrev pub IsLast : {E : Type 0} → List E → E → Type 0
IsLast {E} told last = (before : List E) × (told ≡ before ++ last ∷ [])

-- this generation may come after the last of these
abbrev pub MayFollow : {E : Type 0} → (E → E → Type 0) → List E → E → Type 0
MayFollow {E} follows told next = (last : E) → IsLast told last → follows last next

-- the second list begins with the first, and goes on
abbrev pub IsLonger : {E : Type 0} → List E → List E → Type 0
IsLonger xs ys = IsPrefix xs ys × (length xs < length ys)
