-- believed: The word of a diagonal (own): how far it is above the main one, or, behind a '-', how far below it.
use Rattle.std.specs.Prelude.{ℕ, ◌^◌, ◌==◌, nat_lt, if◌then◌else◌, [], ◌∷◌, Option, Some, None}
use Rattle.std.specs.Option.{option_and_then, option_map}
use Rattle.grb_core.specs.declared.tests.Diagonal.{Diagonal}
use Rattle.grb_core.specs.declared.tests.Diagonal.TheVariants as diagonal
use Rattle.grb_words.specs.Line.{Word}
use Rattle.grb_words.specs.Word.{numeral_value}

-- a number of at most 4294967295
abbrev pub distance_of : Word → Option ℕ
distance_of word = option_and_then (λ n. if nat_lt n (2 ^ 32) then Some n else None) (numeral_value word)

-- the diagonal so far below the main one, which '-0' does not spell
abbrev pub below : ℕ → Option Diagonal
below n = if n == 0 then None else Some (diagonal.Below n)

-- D
abbrev pub diagonal_of : Word → Option Diagonal
diagonal_of [] = None
diagonal_of (b ∷ bs) = if b == 45 then option_and_then below (distance_of bs) else option_map diagonal.Above (distance_of (b ∷ bs))
