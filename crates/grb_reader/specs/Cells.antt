-- believed: Which cells of its row the words of a pass name (own).
use Rattle.std.specs.Prelude.{◌≡◌, ℕ, ◌+◌, ◌<◌, ◌≤◌, List, [], ◌∷◌, Some, slice_get}
use Rattle.grb_order.specs.Word.{index_of}
use Rattle.grb_order.specs.declared.view.View.{View}

-- the words at these positions name cells whose indices rise strictly, from `first` on, and are below `end`
abbrev pub NameRising : ℕ → ℕ → List ℕ → List ℕ → Type 0
NameRising first end words [] = Unit {0}
NameRising first end words (at ∷ rest) = (word : ℕ) × (slice_get words at ≡ Some word) × (first ≤ index_of word) × (index_of word < end) × NameRising (index_of word + 1) end words rest

-- the seat's own words each name a further cell of its row, all of them below the index `end`
abbrev pub OwnBelow : ℕ → View → Type 0
OwnBelow end v = NameRising 0 end v.words v.own
