-- Sums put back to the identity, and marks that there are not.
use Rattle.std.proofs.Common.{◌≡◌, ◌≢◌, ℕ, zero, suc, ◌+◌, ◌-◌, ◌*◌, ◌<◌, ◌≤◌, Bool, true, false, List, [], ◌∷◌, refl, sym, ap, subst, ◌∙◌, arith, length, get_or, set, inl, inr}
use Rattle.std.specs.Prelude.{Some, None}
use Rattle.std.proofs.Math.ListN.{replicate}
use Rattle.std.proofs.lemmas.Bool.{cases_lt, cases_eq}
use Rattle.std.proofs.lemmas.List.{get_or-set_same, get_or-set_other}
use Rattle.grb_core.specs.declared.value.Value.{Value}
use Rattle.grb_kernels.specs.Typed.{kept}
use Rattle.grb_semirings.specs.Open.{marked_at}
use Rattle.grb_kernels.specs.Bits.{has_bit}
use Rattle.grb_sums.specs.Bits.{value_at}
use Rattle.grb_sums.specs.Marks.{AreMarks, HoldAll, HoldUnmarked}

pub none_marked : {V : Type 0} (value : V → Value) (ms : List Bool) (vs : List V) → ((j : ℕ) → get_or ms j false ≡ false) → (j : ℕ) → marked_at value ms vs j ≡ None
none_marked value [] vs h j = refl
none_marked value (m ∷ ms) [] h j = refl
none_marked value (m ∷ ms) (v ∷ vs) h zero = ap (kept (value v)) (h 0)
none_marked value (m ∷ ms) (v ∷ vs) h (suc j) = none_marked value ms vs (λ i. h (suc i)) j

module _ {V : Type 0} (value : V → Value) where
  value-set_same : (ss : List V) (k : ℕ) (x : V) → k < length ss → value_at value (set ss k x) k ≡ Some (value x)
  value-set_same [] k x h = absurd (omega arith)
  value-set_same (s ∷ ss) zero x h = refl
  value-set_same (s ∷ ss) (suc k) x h = value-set_same ss k x (omega arith)

  pub value-set_other : (ss : List V) (k j : ℕ) (x : V) → (j ≡ k → ⊥) → value_at value (set ss k x) j ≡ value_at value ss j
  value-set_other [] k j x n = refl
  value-set_other (s ∷ ss) zero zero x n = absurd (n refl)
  value-set_other (s ∷ ss) zero (suc j) x n = refl
  value-set_other (s ∷ ss) (suc k) zero x n = refl
  value-set_other (s ∷ ss) (suc k) (suc j) x n = value-set_other ss k j x (λ e. n (ap suc e))

-- each of many is the one that they repeat
pub replicate-at : {V : Type 0} (n : ℕ) (x : V) (p : ℕ) → get_or (replicate n x) p x ≡ x
replicate-at zero x p = refl
replicate-at (suc n) x zero = refl
replicate-at (suc n) x (suc p) = replicate-at n x p

module _ {V : Type 0} (value : V → Value) (v : Value) where
  -- as many of one value
  pub hold_all-replicate : (n : ℕ) (x : V) → value x ≡ v → HoldAll value v (replicate n x)
  hold_all-replicate zero x is p h = absurd (omega (arith, h))
  hold_all-replicate (suc n) x is zero h = ap Some is
  hold_all-replicate (suc n) x is (suc p) h = hold_all-replicate n x is p (omega (arith, h))

  -- a bit that is gone has a cleared sum
  pub cleared_here : (bit bit' : ℕ → Bool) (ss : List V) (base low t : ℕ) (x : V) → t < 64 → base + low < length ss → value x ≡ v → ((i : ℕ) → i < 64 → i ≢ low → bit' i ≡ bit i)
      → (bit t ≡ false → value_at value ss (base + t) ≡ Some v) → bit' t ≡ false → value_at value (set ss (base + low) x) (base + t) ≡ Some v
  cleared_here bit bit' ss base low t x h inside is same was gone =
      elim (cases_eq t low) [
        | inl e ↦ ap (λ k. value_at value (set ss (base + low) x) (base + k)) e ∙ value-set_same value ss (base + low) x inside ∙ ap Some is
        | inr n ↦ value-set_other value ss (base + low) (base + t) x (λ e. n (omega arith)) ∙ was (sym (same t h n) ∙ gone)
      ]

  pub set_cleared : (ss : List V) (k i : ℕ) (x : V) → k < length ss → value x ≡ v → i ≡ k → value_at value (set ss k x) i ≡ Some v
  set_cleared ss k i x inside is e = ap (value_at value (set ss k x)) e ∙ value-set_same value ss k x inside ∙ ap Some is

  -- where a sum was cleared it is so still
  pub stays_cleared : (ss : List V) (k i : ℕ) (x : V) → k < length ss → value x ≡ v → value_at value ss i ≡ Some v → value_at value (set ss k x) i ≡ Some v
  stays_cleared ss k i x inside is was =
      elim (cases_eq i k) [
        | inl e ↦ ap (value_at value (set ss k x)) e ∙ value-set_same value ss k x inside ∙ ap Some is
        | inr n ↦ value-set_other value ss k i x n ∙ was
      ]

  -- the sums of one more word are cleared
  pub cleared_next : (ms : List Bool) (before ss ss' : List V) (words : List ℕ) (w : ℕ) → AreMarks ms words → HoldUnmarked value v ms before
      → ((i : ℕ) → 64 * w ≤ i → value_at value ss i ≡ value_at value before i) → ((p : ℕ) → p < 64 * w → p < length before → value_at value ss p ≡ Some v)
      → ((t : ℕ) → t < 64 → has_bit (get_or words w 0) t ≡ true → value_at value ss' (64 * w + t) ≡ Some v)
      → ((i : ℕ) → value_at value ss i ≡ Some v → value_at value ss' i ≡ Some v) → (p : ℕ) → p < 64 * (w + 1) → p < length before → value_at value ss' p ≡ Some v
  cleared_next ms before ss ss' words w are held same was clear stay p upto l =
      elim (cases_lt p (64 * w)) [
        | inl under ↦ stay p (was p under l)
        | inr from ↦ elim (get_or ms p false) as (λ b. get_or ms p false ≡ b → value_at value ss' p ≡ Some v) [
          | false ↦ λ is. stay p (same p (omega (arith, from)) ∙ held p l is)
          | true ↦ λ is.
              let e : 64 * w + (p - 64 * w) ≡ p = omega (arith, from) in
              let t64 : p - 64 * w < 64 = omega (arith, from, upto) in
              subst (λ k. value_at value ss' k ≡ Some v) e (clear (p - 64 * w) t64 (are w (p - 64 * w) t64 ∙ ap (λ k. get_or ms k false) e ∙ is))
        ] refl
      ]

  -- one more place is marked
  pub hold_marked : (ms : List Bool) (ss : List V) (q : ℕ) (x : V) → q < length ms → length (set ss q x) ≡ length ss → HoldUnmarked value v ms ss → HoldUnmarked value v (set ms q true) (set ss q x)
  hold_marked ms ss q x inside same held p l gone =
      elim (cases_eq p q) [
        | inl e ↦ absurd (apart (sym (ap (λ k. get_or (set ms q true) k false) e ∙ get_or-set_same ms q true false inside) ∙ gone))
        | inr n ↦ value-set_other value ss q p x n ∙ held p (omega (arith, l, same)) (sym (get_or-set_other ms q p true false n) ∙ gone)
      ]
    where
      apart : true ≡ false → ⊥
      apart e = cc
