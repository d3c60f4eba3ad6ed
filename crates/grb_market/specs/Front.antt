-- inside: no public contract names it. The numbers of a line, one behind another.
use Rattle.std.specs.Prelude.{◌≡◌, ℕ, ◌<◌, Bool, true, false, if◌then◌else◌, List, [], ◌∷◌, ◌++◌, length, Option, Some, None}
use Rattle.std.specs.List.{list_all}
use Rattle.std.specs.Option.{option_map}
use Rattle.grb_market.specs.Numbers.{is_digit, is_blank, begins_blank, ends_blank, words_of, Number, number_of, numbers_from, numbers_of}
use Rattle.grb_market.specs.Line.{ended, lines_of}

-- a digit stands first
abbrev pub begins_digit : List ℕ → Bool
begins_digit [] = false
begins_digit (b ∷ bytes) = is_digit b

-- the numbers of a text that stands behind a number
abbrev pub behind : List ℕ → Option (List Number)
behind bytes = if ends_blank bytes then None else numbers_from (words_of bytes)

-- a number, and then these
abbrev pub before : Number → Option (List Number) → Option (List Number)
before n numbers = option_map (λ ns. n ∷ ns) numbers

abbrev pub has_number : Option (List Number) → Bool
has_number (Some (n ∷ ns)) = true
has_number _ = false

-- the text begins with the digits of this number, and `rest` is behind them
pub record IsNumberFront (text : List ℕ) (n : Number) (rest : List ℕ) : Type 0 where
  pub digits : List ℕ
  pub are : text ≡ digits ++ rest
  pub long : 0 < length digits
  pub all : list_all is_digit digits ≡ true
  pub number : n ≡ number_of digits
  pub ends : begins_digit rest ≡ false

-- the text begins with blanks, and `rest` is behind them
pub record IsBlankFront (text rest : List ℕ) : Type 0 where
  pub blanks : List ℕ
  pub are : text ≡ blanks ++ rest
  pub all : list_all is_blank blanks ≡ true
  pub ends : begins_blank rest ≡ false

-- the text begins with the digits of this number, and behind them with this byte, and `rest` is behind that
pub record IsNumberBefore (text : List ℕ) (mark n : ℕ) (rest : List ℕ) : Type 0 where
  pub digits : List ℕ
  pub are : text ≡ digits ++ mark ∷ rest
  pub long : 0 < length digits
  pub all : list_all is_digit digits ≡ true
  pub number : Some n ≡ number_of digits

-- the first line of the text has just these numbers, and `rest` is behind its end
pub record IsNumberLine (text : List ℕ) (numbers : List Number) (rest : List ℕ) : Type 0 where
  pub line : List ℕ
  pub first : lines_of text ≡ ended line ∷ lines_of rest
  pub numbers_are : numbers_of line ≡ Some numbers
  pub shorter : length rest < length text
