use Rattle.std.proofs.Common.{◌≡◌, ◌≢◌, ◌<◌, ◌*◌, ◌/◌, ◌%◌, ◌^◌, ℕ, List, inl, inr, set, true, ap, ◌∙◌, ◌+◌, arith, eq-eqb, get_or, length}
use Rattle.std.specs.Prelude.{nat_eq, bit_or}
use Rattle.std.proofs.lemmas.Bool.{cases_eq}
use Rattle.std.proofs.lemmas.List.{get_or-set_same, get_or-set_other}
use Rattle.std.proofs.lemmas.Nat.Bits.{bit_at_set_same, bit_at_set_other}
use mir.Syntax.{w64}
use Rattle.grb_kernels.specs.Bits.{has_bit}
use Rattle.grb_sums.specs.Bits.{is_marked}
use Rattle.grb_sums.proofs.Tops.{any_of_bit, touched-set}
use Rattle.grb_sums.proofs.WordByWord.{mark_bit}
use Rattle.grb_sums.proofs.bits.mark.Goals as goal

module _ (words : List ℕ) (at : ℕ) (inside : at < 64 * length words) where
  abbrev set_word : ℕ
  set_word = bit_or (get_or words (at / 64) 0) (1 * 2 ^ (at % 64) % 18446744073709551616)

  low : at % 64 < 64
  low = omega arith

  word : at / 64 < length words
  word = omega (arith, inside)

  here : is_marked (set words (at / 64) set_word) at ≡ true
  here =
      ap (λ x. has_bit x (at % 64)) (get_or-set_same words (at / 64) set_word 0 word)
      ∙ eq-eqb _ _ (bit_at_set_same w64 (get_or words (at / 64) 0) (at % 64) low)

  others : (p : ℕ) → p ≢ at → is_marked (set words (at / 64) set_word) p ≡ is_marked words p
  others p n =
      elim (cases_eq (p / 64) (at / 64)) [
        | inl e ↦
            let apart : p % 64 ≢ at % 64 = λ same. n (omega (arith, e, same)) in
            ap (λ w. has_bit (get_or (set words (at / 64) set_word) w 0) (p % 64)) e
            ∙ ap (λ x. has_bit x (p % 64)) (get_or-set_same words (at / 64) set_word 0 word)
            ∙ ap (λ (b : ℕ). nat_eq b 1) (bit_at_set_other w64 (get_or words (at / 64) 0) (at % 64) low (p % 64) apart)
            ∙ ap (λ w. has_bit (get_or words w 0) (p % 64)) (let back : at / 64 ≡ p / 64 = omega (arith, e) in back)
        | inr m ↦ ap (λ x. has_bit x (p % 64)) (get_or-set_other words (at / 64) (p / 64) set_word 0 m)
      ]

pub returns-clause-here : goal.returns-clause-here
returns-clause-here c = here c.args.words.now c.args.at c.requires.in_range

pub returns-clause-others : goal.returns-clause-others
returns-clause-others c = others c.args.words.now c.args.at c.requires.in_range

pub returns-clause-marked : goal.returns-clause-marked
returns-clause-marked c marks below are =
    let words = c.args.words.now in
    let at = c.args.at in
    let q = at / 64 in
    let r = at % 64 in
    let low : r < 64 = omega arith in
    let is : at ≡ 64 * q + r = omega arith in
    mark_bit marks words at q r _ are below (omega (arith, c.requires.in_range)) is low
    (eq-eqb _ _ (bit_at_set_same w64 (get_or words q 0) r low))
    (λ i n. ap (λ (b : ℕ). nat_eq b 1) (bit_at_set_other w64 (get_or words q 0) r low i n))

pub returns-clause-touched : goal.returns-clause-touched
returns-clause-touched c =
    let words = c.args.words.now in
    let q = c.args.at / 64 in
    let r = c.args.at % 64 in
    let low : r < 64 = omega arith in
    touched-set words q _ (any_of_bit _ r (eq-eqb _ _ (bit_at_set_same w64 (get_or words q 0) r low)))
