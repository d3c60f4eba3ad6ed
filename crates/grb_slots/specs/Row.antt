-- believed: What a contract sees of a row of slots and of a visit to one (own).
use Rattle.std.specs.Prelude.{◌≡◌, ℕ, List, Some, slice_get}
use Rattle.atomic_table.specs.Seated.{TableId}

-- the tag for which each value in it fits, how many slots there are, with which values they were opened, and which row it is
pub record Row (X T : Type 0) : Type 0 where
  pub tag : T
  pub count : ℕ
  pub first : List X
  pub row : TableId

-- one visit to a slot: of which row, which of the visits to that, at which index, and what was found there
pub record Visit (X : Type 0) : Type 0 where
  pub row : TableId
  pub number : ℕ
  pub at : ℕ
  pub found : X

-- a visit that has ended, and what it left in the slot
pub record Giving (X : Type 0) : Type 0 where
  pub visit : Visit X
  pub left : X

-- each of these values fits the slot of its index
abbrev pub AllFit : {X : Type 0} → (ℕ → X → Type 0) → List X → Type 0
AllFit {X} fits values = (k : ℕ) (x : X) → slice_get values k ≡ Some x → fits k x
