-- believed: How one step changes the view of a seat.
use Rattle.std.specs.Prelude.{◌≡◌, ◌≢◌, ℕ, ◌<◌, ◌≤◌, List, [], ◌∷◌, ◌++◌, length, All, drop}
use Rattle.grb_order.specs.Word.{number_of, IsWord, positions}
use Rattle.grb_order.specs.declared.view.View.{View}

-- a seat that has learnt no word
abbrev pub fresh : ℕ → ℕ → View
fresh number passes = record { number = number; passes = passes; words = []; own = []; looks = [] }

-- it learns a word of another seat
abbrev pub learns : View → ℕ → View
learns v word = record v { words = v.words ++ word ∷ [] }

-- it finds the position after the words that it has learnt vacant
abbrev pub finds_vacant : View → View
finds_vacant v = record v { looks = v.looks ++ length v.words ∷ [] }

-- its own word is entered after the words that it has learnt
abbrev pub enters_word : View → ℕ → View
enters_word v word = record v { words = v.words ++ word ∷ []; own = v.own ++ length v.words ∷ [] }

-- it learns the words that another seat has beyond its own
abbrev pub is_told : View → List ℕ → View
is_told v words = record v { words = v.words ++ drop (length v.words) words }

-- another seat entered the word
abbrev pub IsOthers : View → ℕ → Type 0
IsOthers v word = IsWord v.passes word × (number_of word ≢ v.number)

-- what each seat of a row of `room` words keeps: the words learnt that have its number are just those that it entered
pub record IsSound (room : ℕ) (v : View) : Type 0 where
  pub number : v.number < v.passes
  pub few : length v.words ≤ room
  pub words : All (IsWord v.passes) v.words
  pub own : positions v.number v.words ≡ v.own
  pub looks : All (λ at. at < room) v.looks

-- the seat looked last at the position after the words that it has learnt
abbrev pub LookedLast : View → Type 0
LookedLast v = (earlier : List ℕ) × (v.looks ≡ earlier ++ length v.words ∷ [])
