-- When a word is a number, and the value of its digits.
use Rattle.std.proofs.Common.{◌≡◌, ℕ, ◌+◌, ◌-◌, ◌*◌, ◌^◌, ◌<◌, ◌≤◌, Bool, true, false, ◌&&◌, cond, ltb, List, [], ◌∷◌, length, take, get_or, Some, None, refl, sym, ap, arith}
use Rattle.std.specs.List.{list_all}
use Rattle.std.specs.Str.Parse.{digits_value}
use Rattle.std.proofs.lemmas.Bool.{and_parts}
use Rattle.std.proofs.lemmas.Bool.Decides.{nat_tests}
use Rattle.std.proofs.lemmas.Str.Parse.{digits_value-take-le}
use Rattle.grb_market.specs.Numbers.{is_digit}
use Rattle.grb_market.proofs.NumberLemmas as digits
use Rattle.grb_words.specs.Word.{is_numeral, numeral_value}

-- each byte of a numeral is a digit
list_all-is_numeral : (w : List ℕ) → is_numeral w ≡ true → list_all is_digit w ≡ true
list_all-is_numeral [] h = refl
list_all-is_numeral (b ∷ []) h = ap (λ t. t && true) h
list_all-is_numeral (b ∷ c ∷ bs) h = (and_parts _ _ h).0

-- the value of one digit more
pub digits_value-next : (w : List ℕ) (i n : ℕ) → is_numeral w ≡ true → i < length w → n ≡ digits_value 10 (take i w) → digits_value 10 (take (i + 1) w) ≡ n * 10 + (get_or w i 0 - 48)
digits_value-next w i n h l e = digits.digits_value-next w i n (list_all-is_numeral w h) l e

-- a word that is too great in its first digits is no number
pub numeral_value-too_great : (w : List ℕ) (i : ℕ) → 2 ^ 64 ≤ digits_value 10 (take i w) → None ≡ numeral_value w
numeral_value-too_great w i great =
    let most = digits_value-take-le 10 w i (omega arith) in
    let large : 2 ^ 64 ≤ digits_value 10 w = omega arith in
    by (is_numeral w) (ltb (digits_value 10 w) (2 ^ 64)) (grind (arith, nat_tests))
  where
    by : (a b : Bool) → b ≡ false → None ≡ cond (a && b) (Some (digits_value 10 w)) None
    by true b e = ap (λ t. cond t (Some (digits_value 10 w)) None) (sym e)
    by false b e = refl

-- a numeral that fits is a number
pub numeral_value-fits : (w : List ℕ) → is_numeral w ≡ true → digits_value 10 w < 2 ^ 64 → numeral_value w ≡ Some (digits_value 10 w)
numeral_value-fits w h l =
    let fits : ltb (digits_value 10 w) (2 ^ 64) ≡ true = grind (arith, nat_tests) in
    λ j. cond (h j && fits j) (Some (digits_value 10 w)) None
