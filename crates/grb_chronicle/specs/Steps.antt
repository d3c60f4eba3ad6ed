-- inside: no public contract names it. The rule of the book that a chronicle is, and what its steps tell.
use Rattle.std.specs.Prelude.{ℕ, ◌≡◌, ◌+◌, ◌==◌, true, List, [], ◌∷◌, ◌++◌, length, MatchBool}
use Rattle.logbook.specs.Pages.{Book, Cell, Named, Step, View}
use Rattle.grb_chronicle.specs.Linked.{AreLinked}

-- the one word of the book
abbrev pub head_of : Book → Named
head_of b = record { tracked = true; key = 0; book = b }

-- the word is the number of the last generation, and each may come after the one before it
pub record IsKept {E : Type 0} (follows : E → E → Type 0) (cells : List Cell) (log : List E) : Type 0 where
  pub number : ℕ
  pub cells_are : cells ≡ (number, true) ∷ []
  pub long : length log ≡ number + 1
  pub linked : AreLinked follows log

-- the generation was added to all that had been seen; or there were more, and they were seen
abbrev pub Turns : {E : Type 0} → (E → E → Type 0) → Step E → View E ℕ → ℕ → View E ℕ → Type 0
Turns follows s v found w = MatchBool (found == s.old) (w.0 ≡ v.0 ++ s.ask ∷ []) (length w.0 ≡ found + 1) × AreLinked follows w.0
