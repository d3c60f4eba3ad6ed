-- Marked values, word by word.
use Rattle.std.proofs.Common.{◌≡◌, ℕ, zero, suc, ◌+◌, ◌*◌, ◌^◌, ◌<◌, ◌≤◌, Bool, true, false, cond, List, [], ◌∷◌, ◌++◌, refl, sym, ap, ◌∙◌, append_assoc, arith, length, get_or, drop, inl, inr}
use Rattle.std.specs.Prelude.{Option, Some, None, nat_eq}
use Rattle.std.proofs.Common.{set, ◌≢◌}
use Rattle.std.proofs.lemmas.List.{get_or-set_same, get_or-set_other}
use Rattle.std.proofs.lemmas.Bool.{cases_lt, cases_eq}
use Rattle.std.proofs.lemmas.List.{drop_more, drop_all, get_or_past}
use Rattle.std.proofs.lemmas.Nat.Bits.{bit_at_above}
use Rattle.grb_core.specs.declared.value.Value.{Value}
use Rattle.grb_core.specs.Entries.{VectorEntries, before_entries}
use Rattle.grb_kernels.specs.Typed.{kept}
use Rattle.grb_sums.specs.Open.{marked_from}
use Rattle.grb_kernels.specs.Bits.{has_bit}
use Rattle.grb_sums.specs.Bits.{value_at}
use Rattle.grb_sums.specs.Marks.{bits_from, AreMarks}

differ : false ≡ true → ⊥
differ e = cc

-- a set bit stands for a mark
pub bit_in_range : (ms : List Bool) (words : List ℕ) (w t : ℕ) → AreMarks ms words → get_or words w 0 < 2 ^ 64 → has_bit (get_or words w 0) t ≡ true → 64 * w + t < length ms
bit_in_range ms words w t h fits set =
    elim (cases_lt (64 * w + t) (length ms)) [
      | inl lt ↦ lt
      | inr past ↦ elim (cases_lt t 64) [
        | inl low ↦ absurd (differ (sym (get_or_past ms (64 * w + t) false past) ∙ sym (h w t low) ∙ set))
        | inr high ↦ absurd (differ (sym (ap (λ (b : ℕ). nat_eq b 1) (bit_at_above (get_or words w 0) 64 t fits high)) ∙ set))
      ]
    ]

before_append : (k : ℕ) (w : Option Value) (m n : VectorEntries) → before_entries k w m ++ n ≡ before_entries k w (m ++ n)
before_append k None m n = refl
before_append k (Some v) m n = refl

module _ {V : Type 0} (value : V → Value) (name : ℕ → ℕ) (ms : List Bool) (vs : List V) (same : length ms ≡ length vs) where
  kept_at : (vs : List V) (j : ℕ) (b : Bool) (v : V) → value_at value vs j ≡ Some (value v) → kept (value v) b ≡ cond b (value_at value vs j) None
  kept_at vs j true v e = sym e
  kept_at vs j false v e = refl

  drop_values : (vs : List V) (j : ℕ) → j < length vs → (v : V) × ((drop j vs ≡ v ∷ drop (suc j) vs) × (value_at value vs j ≡ Some (value v)))
  drop_values [] j h = absurd (omega arith)
  drop_values (v ∷ vs) zero h = (v, (refl, refl))
  drop_values (v ∷ vs) (suc j) h = let r = drop_values vs j (omega arith) in (r.0, (r.1.0, r.1.1))

  -- one mark on
  next_mark : (j : ℕ) → j < length ms → marked_from value name j (drop j ms) (drop j vs) ≡ before_entries (name j) (cond (get_or ms j false) (value_at value vs j) None) (marked_from value name (j + 1) (drop (j + 1) ms) (drop (j + 1) vs))
  next_mark j h =
      let r = drop_values vs j (omega arith) in
      ap (λ (x : List Bool). marked_from value name j x (drop j vs)) (drop_more ms j false h)
      ∙ ap (marked_from value name j (get_or ms j false ∷ drop (j + 1) ms)) (r.1.0 ∙ ap (λ i. r.0 ∷ drop i vs) (let k : suc j ≡ j + 1 = omega arith in k))
      ∙ ap (λ w. before_entries (name j) w (marked_from value name (j + 1) (drop (j + 1) ms) (drop (j + 1) vs))) (kept_at vs j (get_or ms j false) r.0 r.1.1)

  past_marks : (j : ℕ) → length ms ≤ j → marked_from value name j (drop j ms) (drop j vs) ≡ []
  past_marks j h = ap (λ (x : List Bool). marked_from value name j x (drop j vs)) (drop_all j ms h)

  -- the marks of a word, and those after them
  pub word_marks : (bit : ℕ → Bool) (base : ℕ) → ((t : ℕ) → t < 64 → bit t ≡ get_or ms (base + t) false) → (n t : ℕ) → t + n ≤ 64
      → marked_from value name (base + t) (drop (base + t) ms) (drop (base + t) vs)
      ≡ bits_from name bit (value_at value vs) base n t ++ marked_from value name (base + (t + n)) (drop (base + (t + n)) ms) (drop (base + (t + n)) vs)
  unfolding bits_from
  word_marks bit base h zero t f = ap (λ j. marked_from value name j (drop j ms) (drop j vs)) (omega arith)
  word_marks bit base h (suc n) t f =
      let rest = marked_from value name (base + (t + suc n)) (drop (base + (t + suc n)) ms) (drop (base + (t + suc n)) vs) in
      let later : marked_from value name (base + t + 1) (drop (base + t + 1) ms) (drop (base + t + 1) vs) ≡ bits_from name bit (value_at value vs) base n (t + 1) ++ rest =
      ap (λ j. marked_from value name j (drop j ms) (drop j vs)) (let e : base + t + 1 ≡ base + (t + 1) = omega arith in e)
      ∙ word_marks bit base h n (t + 1) (omega arith)
      ∙ ap (λ j. bits_from name bit (value_at value vs) base n (t + 1) ++ marked_from value name j (drop j ms) (drop j vs)) (let e : base + (t + 1 + n) ≡ base + (t + suc n) = omega arith in e) in
      elim (cases_lt (base + t) (length ms)) [
        | inl lt ↦
            next_mark (base + t) lt
            ∙ ap (λ b. before_entries (name (base + t)) (cond b (value_at value vs (base + t)) None) (marked_from value name (base + t + 1) (drop (base + t + 1) ms) (drop (base + t + 1) vs))) (sym (h t (omega arith)))
            ∙ ap (before_entries (name (base + t)) (cond (bit t) (value_at value vs (base + t)) None)) later
            ∙ sym (before_append (name (base + t)) (cond (bit t) (value_at value vs (base + t)) None) (bits_from name bit (value_at value vs) base n (t + 1)) rest)
        | inr past ↦
            past_marks (base + t) past
            ∙ sym (past_marks (base + t + 1) (omega arith))
            ∙ later
            ∙ ap (λ b. before_entries (name (base + t)) (cond b (value_at value vs (base + t)) None) (bits_from name bit (value_at value vs) base n (t + 1)) ++ rest) (sym (h t (omega arith) ∙ get_or_past ms (base + t) false past))
      ]

  -- one more word
  pub word_step : (words : List ℕ) (w : ℕ) (out out' total : VectorEntries) → AreMarks ms words
      → out ++ marked_from value name (64 * w) (drop (64 * w) ms) (drop (64 * w) vs) ≡ total
      → out' ≡ out ++ bits_from name (has_bit (get_or words w 0)) (value_at value vs) (64 * w) 64 0
      → out' ++ marked_from value name (64 * (w + 1)) (drop (64 * (w + 1)) ms) (drop (64 * (w + 1)) vs) ≡ total
  word_step words w out out' total h so_far e =
      let bits = bits_from name (has_bit (get_or words w 0)) (value_at value vs) (64 * w) 64 0 in
      ap (λ m. m ++ marked_from value name (64 * (w + 1)) (drop (64 * (w + 1)) ms) (drop (64 * (w + 1)) vs)) e
      ∙ append_assoc out bits (marked_from value name (64 * (w + 1)) (drop (64 * (w + 1)) ms) (drop (64 * (w + 1)) vs))
      ∙ ap (λ m. out ++ m)
      (ap (λ j. bits ++ marked_from value name j (drop j ms) (drop j vs)) (let k : 64 * (w + 1) ≡ 64 * w + (0 + 64) = omega arith in k)
      ∙ sym (word_marks (has_bit (get_or words w 0)) (64 * w) (λ t lt. h w t lt) 64 0 (omega arith))
      ∙ ap (λ j. marked_from value name j (drop j ms) (drop j vs)) (let k : 64 * w + 0 ≡ 64 * w = omega arith in k))
      ∙ so_far

  pub words_all : (j : ℕ) (out total : VectorEntries) → length ms ≤ j → out ++ marked_from value name j (drop j ms) (drop j vs) ≡ total → out ≡ total
  words_all j out total h e = sym (nothing out) ∙ ap (λ m. out ++ m) (sym (past_marks j h)) ∙ e
    where
      nothing : (xs : VectorEntries) → xs ++ [] ≡ xs
      nothing [] = refl
      nothing (x ∷ xs) = ap (λ (t : VectorEntries). x ∷ t) (nothing xs)

-- a mark and its bit are set together
pub mark_bit : (ms : List Bool) (words : List ℕ) (at q r new : ℕ) → AreMarks ms words → at < length ms → q < length words → at ≡ 64 * q + r → r < 64
    → has_bit new r ≡ true → ((i : ℕ) → i ≢ r → has_bit new i ≡ has_bit (get_or words q 0) i) → AreMarks (set ms at true) (set words q new)
mark_bit ms words at q r new h lt wt is low on other w t lt64 =
    elim (cases_eq w q) [
      | inl e ↦
          ap (λ x. has_bit (get_or (set words q new) x 0) t) e
          ∙ ap (λ x. has_bit x t) (get_or-set_same words q new 0 wt)
          ∙ elim (cases_eq t r) [
            | inl f ↦ ap (has_bit new) f ∙ on ∙ sym (ap (λ j. get_or (set ms at true) j false) (let k : 64 * w + t ≡ at = omega arith in k) ∙ get_or-set_same ms at true false lt)
            | inr n ↦ other t n ∙ h q t lt64 ∙ sym (ap (λ j. get_or (set ms at true) j false) (let k : 64 * w + t ≡ 64 * q + t = omega arith in k) ∙ get_or-set_other ms at (64 * q + t) true false (λ k. n (omega arith)))
          ]
      | inr n ↦
          ap (λ x. has_bit x t) (get_or-set_other words q w new 0 n)
          ∙ h w t lt64
          ∙ sym (get_or-set_other ms at (64 * w + t) true false (λ k. n (omega arith)))
    ]
