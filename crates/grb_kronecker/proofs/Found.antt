-- What a row of a Kronecker product stores at each column.
use Rattle.std.proofs.Common.{◌≡◌, ℕ, ◌+◌, ◌*◌, ◌/◌, ◌%◌, ◌<◌, true, false, cond, [], ◌∷◌, refl, sym, ap, ◌∙◌, inl, inr}
use Rattle.std.specs.Prelude.{◌≢◌, Option, Some, None, option_map}
use Rattle.std.specs.List.{AllByRecursion}
use Rattle.std.specs.Option.{option_or}
use Rattle.std.specs.Ordering.{nat_cmp, eq_by_cmp}
use Rattle.std.specs.Cmp.{nat_cmp_total}
use Rattle.std.specs.FinMap.{find, nat_cmp-IsAntisymmetric}
use Rattle.std.proofs.lemmas.Bool.{cases_eq}
use Rattle.std.proofs.lemmas.Nat.{div-mul-add, mod-mul-add, div-add-mod'}
use Rattle.grb_core.specs.declared.value.Value.{Value}
use Rattle.grb_core.specs.Entries.{VectorEntries}
use Rattle.grb_core.specs.Written.{both_values}
use Rattle.grb_core.proofs.Maps.{find-append_maps}
use Rattle.grb_core.proofs.Edits.{ties_with_itself, ties_with_no_other}
use Rattle.grb_kronecker.specs.Crossing.{crossed, shifted}

tie : (p q : ℕ) → p ≡ q → eq_by_cmp nat_cmp p q ≡ true
tie p q e = ap (eq_by_cmp nat_cmp p) (sym e) ∙ ties_with_itself nat_cmp nat_cmp_total nat_cmp-IsAntisymmetric p

no_tie : (p q : ℕ) → p ≢ q → eq_by_cmp nat_cmp p q ≡ false
no_tie p q h = ties_with_no_other nat_cmp nat_cmp_total nat_cmp-IsAntisymmetric p q h

module _ (f : Value → Value → Value) (c : ℕ) where
  -- a column in the part of an entry of the first row
  find-here : (y e : ℕ) (v : Value) (m : VectorEntries) → y / c ≡ e → AllByRecursion (λ d. d.0 < c) m → find nat_cmp y (shifted f (e * c) v m) ≡ option_map (f v) (find nat_cmp (y % c) m)
  find-here y e v [] h w = refl
  find-here y e v (d ∷ m) h w =
      let rest = find-here y e v m h w.1 in
      elim (cases_eq (y % c) d.0) [
        | inl t ↦
            let here : y ≡ e * c + d.0 = sym (div-add-mod' y c) ∙ ap (λ n. n * c + y % c) h ∙ ap (λ n. e * c + n) t in
            ap (λ b. cond b (Some (f v d.1)) (find nat_cmp y (shifted f (e * c) v m))) (tie y (e * c + d.0) here)
            ∙ sym (ap (λ b. option_map (f v) (cond b (Some d.1) (find nat_cmp (y % c) m))) (tie (y % c) d.0 t))
        | inr n ↦
            let other : y ≢ e * c + d.0 = λ s. n (ap (λ k. k % c) s ∙ mod-mul-add e c d.0 w.0) in
            ap (λ b. cond b (Some (f v d.1)) (find nat_cmp y (shifted f (e * c) v m))) (no_tie y (e * c + d.0) other)
            ∙ rest
            ∙ sym (ap (λ b. option_map (f v) (cond b (Some d.1) (find nat_cmp (y % c) m))) (no_tie (y % c) d.0 n))
      ]

  -- and in no other part
  find-elsewhere : (y e : ℕ) (v : Value) (m : VectorEntries) → y / c ≢ e → AllByRecursion (λ d. d.0 < c) m → find nat_cmp y (shifted f (e * c) v m) ≡ None
  find-elsewhere y e v [] h w = refl
  find-elsewhere y e v (d ∷ m) h w =
      let other : y ≢ e * c + d.0 = λ s. h (ap (λ k. k / c) s ∙ div-mul-add e c d.0 w.0) in
      ap (λ b. cond b (Some (f v d.1)) (find nat_cmp y (shifted f (e * c) v m))) (no_tie y (e * c + d.0) other)
      ∙ find-elsewhere y e v m h w.1

  or_both : (v : Value) (w z : Option Value) → option_or (option_map (f v) w) (both_values f z w) ≡ both_values f (Some v) w
  or_both v (Some x) z = refl
  or_both v None None = refl
  or_both v None (Some x) = refl

  -- a row of a product stores at each column what the operator makes of the values at the quotient and at the remainder
  pub find-crossed : (y : ℕ) (x m : VectorEntries) → AllByRecursion (λ d. d.0 < c) m → find nat_cmp y (crossed f c x m) ≡ both_values f (find nat_cmp (y / c) x) (find nat_cmp (y % c) m)
  find-crossed y [] m w = refl
  find-crossed y (e ∷ x) m w =
      find-append_maps nat_cmp y (shifted f (e.0 * c) e.1 m) (crossed f c x m)
      ∙ ap (option_or (find nat_cmp y (shifted f (e.0 * c) e.1 m))) (find-crossed y x m w)
      ∙ elim (cases_eq (y / c) e.0) [
        | inl t ↦
            ap (λ (o : Option Value). option_or o (both_values f (find nat_cmp (y / c) x) (find nat_cmp (y % c) m))) (find-here y e.0 e.1 m t w)
            ∙ or_both e.1 (find nat_cmp (y % c) m) (find nat_cmp (y / c) x)
            ∙ sym (ap (λ b. both_values f (cond b (Some e.1) (find nat_cmp (y / c) x)) (find nat_cmp (y % c) m)) (tie (y / c) e.0 t))
        | inr n ↦
            ap (λ (o : Option Value). option_or o (both_values f (find nat_cmp (y / c) x) (find nat_cmp (y % c) m))) (find-elsewhere y e.0 e.1 m n w)
            ∙ sym (ap (λ b. both_values f (cond b (Some e.1) (find nat_cmp (y / c) x)) (find nat_cmp (y % c) m)) (no_tie (y / c) e.0 n))
      ]
