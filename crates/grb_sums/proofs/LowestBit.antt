-- The lowest set bit of a word is taken off.
use Rattle.std.proofs.Common.{◌≡◌, ℕ, zero, suc, ◌+◌, ◌<◌, ◌≤◌, Bool, true, false, cond, List, [], ◌∷◌, ◌++◌, refl, sym, ap, ◌∙◌, append_assoc, arith, length, get_or, inl, inr}
use Rattle.std.specs.Prelude.{Option, Some, None}
use Rattle.std.proofs.lemmas.Bool.{cases_eq}
use Rattle.grb_core.specs.declared.value.Value.{Value}
use Rattle.grb_core.specs.Entries.{VectorEntries, before_entries}
use Rattle.grb_sums.specs.Bits.{value_at}
use Rattle.grb_sums.specs.Marks.{bits_from}
use Rattle.grb_kernels.proofs.Lists.{before-append}

module _ (name : ℕ → ℕ) (bit bit' : ℕ → Bool) (at : ℕ → Option Value) (base low : ℕ) (is : bit low ≡ true) (below : (i : ℕ) → i < low → bit i ≡ false) (gone : bit' low ≡ false)
    (same : (i : ℕ) → i < 64 → (i ≡ low → ⊥) → bit' i ≡ bit i) where
  above_low : (n t : ℕ) → low < t → t + n ≤ 64 → bits_from name bit' at base n t ≡ bits_from name bit at base n t
  unfolding bits_from
  above_low zero t h f = refl
  above_low (suc n) t h f =
      ap (λ b. before_entries (name (base + t)) (cond b (at (base + t)) None) (bits_from name bit' at base n (t + 1))) (same t (omega arith) (λ e. omega arith))
      ∙ ap (before_entries (name (base + t)) (cond (bit t) (at (base + t)) None)) (above_low n (t + 1) (omega arith) (omega arith))

  pub lowest_first : (n t : ℕ) → t ≤ low → low < t + n → t + n ≤ 64 → bits_from name bit at base n t ≡ before_entries (name (base + low)) (at (base + low)) (bits_from name bit' at base n t)
  unfolding bits_from
  lowest_first zero t h l f = absurd (omega arith)
  lowest_first (suc n) t h l f =
      elim (cases_eq t low) [
        | inl e ↦
            ap (λ b. before_entries (name (base + t)) (cond b (at (base + t)) None) (bits_from name bit at base n (t + 1))) (ap bit e ∙ is)
            ∙ ap (λ i. before_entries (name (base + i)) (at (base + i)) (bits_from name bit at base n (t + 1))) e
            ∙ ap (before_entries (name (base + low)) (at (base + low))) (sym (above_low n (t + 1) (omega arith) (omega arith)))
            ∙ ap (λ b. before_entries (name (base + low)) (at (base + low)) (before_entries (name (base + t)) (cond b (at (base + t)) None) (bits_from name bit' at base n (t + 1)))) (sym (ap bit' e ∙ gone))
        | inr n' ↦
            let unset : bit t ≡ false = below t (omega arith) in
            ap (λ b. before_entries (name (base + t)) (cond b (at (base + t)) None) (bits_from name bit at base n (t + 1))) unset
            ∙ lowest_first n (t + 1) (omega arith) (omega arith) (omega arith)
            ∙ ap (λ b. before_entries (name (base + low)) (at (base + low)) (before_entries (name (base + t)) (cond b (at (base + t)) None) (bits_from name bit' at base n (t + 1)))) (sym (same t (omega arith) n' ∙ unset))
      ]

  -- one more entry goes out
  pub took_lowest : (out out' total : VectorEntries) (w : Option Value) → low < 64 → out ++ bits_from name bit at base 64 0 ≡ total → w ≡ at (base + low)
      → out' ≡ out ++ before_entries (name (base + low)) w [] → out' ++ bits_from name bit' at base 64 0 ≡ total
  took_lowest out out' total w lt so_far at_low e =
      ap (λ m. m ++ bits_from name bit' at base 64 0) e
      ∙ append_assoc out (before_entries (name (base + low)) w []) (bits_from name bit' at base 64 0)
      ∙ ap (λ m. out ++ m) (before-append (name (base + low)) w (bits_from name bit' at base 64 0) ∙ ap (λ v. before_entries (name (base + low)) v (bits_from name bit' at base 64 0)) at_low
      ∙ sym (lowest_first 64 0 (omega arith) (omega arith) (omega arith)))
      ∙ so_far

-- no bit is set
pub no_bits : (name : ℕ → ℕ) (bit : ℕ → Bool) (at : ℕ → Option Value) (base n t : ℕ) → ((i : ℕ) → bit i ≡ false) → bits_from name bit at base n t ≡ []
unfolding bits_from
no_bits name bit at base zero t h = refl
no_bits name bit at base (suc n) t h =
    ap (λ b. before_entries (name (base + t)) (cond b (at (base + t)) None) (bits_from name bit at base n (t + 1))) (h t) ∙ no_bits name bit at base n (t + 1) h

-- values that are the same from the base on
pub same_bits : (name : ℕ → ℕ) (bit : ℕ → Bool) (at at' : ℕ → Option Value) (base n t : ℕ) → ((i : ℕ) → base ≤ i → at i ≡ at' i) → bits_from name bit at base n t ≡ bits_from name bit at' base n t
unfolding bits_from
same_bits name bit at at' base zero t h = refl
same_bits name bit at at' base (suc n) t h =
    ap (λ w. before_entries (name (base + t)) (cond (bit t) w None) (bits_from name bit at base n (t + 1))) (h (base + t) (omega arith))
    ∙ ap (before_entries (name (base + t)) (cond (bit t) (at' (base + t)) None)) (same_bits name bit at at' base n (t + 1) h)

pub value-read : {V : Type 0} (value : V → Value) (vs : List V) (j : ℕ) (x : V) → j < length vs → x ≡ get_or vs j x → Some (value x) ≡ value_at value vs j
value-read value [] j x h is = absurd (omega arith)
value-read value (v ∷ vs) zero x h is = ap (λ w. Some (value w)) is
value-read value (v ∷ vs) (suc j) x h is = value-read value vs j x (omega arith) is
