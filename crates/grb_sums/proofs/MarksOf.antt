-- The marks that words have.
use Rattle.std.proofs.Common.{◌≡◌, ℕ, zero, suc, ◌+◌, ◌*◌, ◌/◌, ◌%◌, ◌<◌, Bool, false, List, [], ◌∷◌, refl, sym, ap, ◌∙◌, arith, length, get_or}
use Rattle.std.specs.Prelude.{nat_eq}
use Rattle.std.proofs.lemmas.Nat.Bits.{bit_at-zero}
use Rattle.grb_kernels.specs.Bits.{has_bit}
use Rattle.grb_sums.specs.Marks.{marks_from, marks_of, AreMarks}

abbrev mark_at : List ℕ → ℕ → Bool
mark_at words p = has_bit (get_or words (p / 64) 0) (p % 64)

length-marks_from : (words : List ℕ) (j n : ℕ) → length (marks_from words j n) ≡ n
length-marks_from words j zero = refl
length-marks_from words j (suc n) = ap suc (length-marks_from words (j + 1) n)

pub length-marks_of : (words : List ℕ) (n : ℕ) → length (marks_of n words) ≡ n
length-marks_of words n = length-marks_from words 0 n

as_marks : (words : List ℕ) (ms : List Bool) (j : ℕ) → ((p : ℕ) → p < length ms → get_or ms p false ≡ mark_at words (j + p)) → ms ≡ marks_from words j (length ms)
as_marks words [] j h = refl
as_marks words (m ∷ ms) j h =
    ap (λ (b : Bool). b ∷ ms) (h 0 (omega arith) ∙ ap (mark_at words) (let e : j + 0 ≡ j = omega arith in e))
    ∙ ap (λ (r : List Bool). mark_at words j ∷ r) (as_marks words ms (j + 1) (λ p l. h (suc p) (omega (arith, l)) ∙ ap (mark_at words) (let e : j + suc p ≡ j + 1 + p = omega arith in e)))

read_mark : (ms : List Bool) (words : List ℕ) → AreMarks ms words → (p : ℕ) → get_or ms p false ≡ mark_at words p
read_mark ms words are p = ap (λ k. get_or ms k false) (let e : p ≡ 64 * (p / 64) + p % 64 = omega arith in e) ∙ sym (are (p / 64) (p % 64) (omega arith))

-- marks that words have are those that are made of them
pub same_marks : (ms : List Bool) (words : List ℕ) (n : ℕ) → length ms ≡ n → AreMarks ms words → marks_of n words ≡ ms
same_marks ms words n long are = sym (as_marks words ms 0 (λ p l. read_mark ms words are p ∙ ap (mark_at words) (let e : p ≡ 0 + p = omega arith in e)) ∙ ap (marks_from words 0) long)

module _ (words : List ℕ) (none : (w : ℕ) → get_or words w 0 ≡ 0) where
  no_bit : (w t : ℕ) → has_bit (get_or words w 0) t ≡ false
  no_bit w t = ap (λ x. has_bit x t) (none w) ∙ ap (λ (b : ℕ). nat_eq b 1) (bit_at-zero t)

  no_mark : (n p j : ℕ) → get_or (marks_from words j n) p false ≡ false
  no_mark zero p j = refl
  no_mark (suc n) zero j = no_bit (j / 64) (j % 64)
  no_mark (suc n) (suc p) j = no_mark n p (j + 1)

  -- words without bits have no marks
  pub none_of_zeros : (n p : ℕ) → get_or (marks_of n words) p false ≡ false
  none_of_zeros n p = no_mark n p 0

  pub zeros_are_marks : (n : ℕ) → AreMarks (marks_of n words) words
  zeros_are_marks n w t h = no_bit w t ∙ sym (none_of_zeros n (64 * w + t))
