-- believed: Where a generation stands in the chronicle of its chain (own).
use Rattle.std.specs.Prelude.{◌≡◌, ◌+◌, ℕ, List, [], ◌∷◌, length}
use Rattle.grb_chronicle.specs.Linked.{AreLinked, IsLast, Reached}
use Rattle.grb_chronicle.specs.Pages.{Book}
use Rattle.grb_context.specs.Known.{Shared, known}
use Rattle.grb_numbers.specs.Numbers.{NumbersSeen}
use Rattle.grb_generations.specs.Follows.{Follows}
use Rattle.grb_generations.specs.declared.told.Told.{Told}

-- the last of these generations has this store, which is seen by these numbers
pub record IsLastOf (told : List Told) (context : Shared) (numbers : NumbersSeen) : Type 0 where
  pub own : Told
  pub last : IsLast told own
  pub context_is : own.context ≡ context
  pub numbers_are : own.numbers ≡ numbers

-- one generation, which no other came before: the pass that is told with it knew no call
pub record IsFirstOf (told : List Told) : Type 0 where
  pub first : Told
  pub alone : told ≡ first ∷ []
  pub none : known first.last ≡ []

-- the page is one of this chain, and its last generation is the one of this number, with this store and these numbers; each generation
-- on it comes after the one before it
pub record IsPlaced (book : Book) (context : Shared) (numbers : NumbersSeen) (generation : ℕ) (page : Reached Told) : Type 0 where
  pub chain : page.chain ≡ book
  pub here : IsLastOf page.told context numbers
  pub count : length page.told ≡ generation + 1
  pub linked : AreLinked Follows page.told
