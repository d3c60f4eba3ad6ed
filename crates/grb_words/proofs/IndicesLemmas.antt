-- When words tell no indices and value.
use Rattle.std.proofs.Common.{◌≡◌, ℕ, List, [], ◌∷◌, length, get_or, Some, None, Bor, refl, arith}
use Rattle.std.specs.Option.{option_map, option_and_then}
use Rattle.grb_words.specs.declared.indices.Indices.TheVariants as indices
use Rattle.grb_words.specs.Word.{numeral_value, value_of}
use Rattle.grb_words.specs.Form.{indices_and_value_of}
use Rattle.grb_words.proofs.TupleLemmas.{now_of}

-- neither two words nor three tell indices and a value
pub indices_and_value_of-none : (words : List (Bor (List ℕ))) → (length words ≡ 2 → ⊥) → (length words ≡ 3 → ⊥) → None ≡ indices_and_value_of (now_of words)
indices_and_value_of-none [] two three = refl
indices_and_value_of-none (a ∷ []) two three = refl
indices_and_value_of-none (a ∷ b ∷ []) two three = absurd (two refl)
indices_and_value_of-none (a ∷ b ∷ c ∷ []) two three = absurd (three refl)
indices_and_value_of-none (a ∷ b ∷ c ∷ d ∷ more) two three = refl

-- what a list is read to have at a place that it lacks
abbrev pub no_word : Bor (List ℕ)
no_word = record { ref_ptr = (0, 0); now = [] }

-- three words of which the second is no number
pub indices_and_value_of-second : (words : List (Bor (List ℕ))) (n : ℕ) → length words ≡ 3 → Some n ≡ numeral_value (get_or words 0 no_word).now → None ≡ numeral_value (get_or words 1 no_word).now
    → None ≡ indices_and_value_of (now_of words)
indices_and_value_of-second [] n l e f = absurd (omega arith)
indices_and_value_of-second (a ∷ []) n l e f = absurd (omega arith)
indices_and_value_of-second (a ∷ b ∷ []) n l e f = absurd (omega arith)
indices_and_value_of-second (a ∷ b ∷ c ∷ []) n l e f =
    λ j. option_and_then (λ n. option_and_then (λ m. option_map (λ v. (indices.Two n m, v)) (value_of c.now)) (f j)) (e j)
indices_and_value_of-second (a ∷ b ∷ c ∷ d ∷ more) n l e f = absurd (omega arith)
