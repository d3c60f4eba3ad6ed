-- A vector that stores a value at each index: its values lie in the order of their indices, none of which is left out.
use Rattle.std.proofs.Common.{◌≡◌, ℕ, zero, suc, ◌+◌, ◌-◌, ◌<◌, ◌≤◌, true, List, [], ◌∷◌, length, get_or, refl, sym, ap, ◌∙◌, arith, inl, inr}
use Rattle.std.specs.Prelude.{All, Some, None, IsTrue, map, is_some, ◌||◌}
use Rattle.std.specs.Ordering.{nat_cmp}
use Rattle.std.specs.FinMap.{is_sorted, find}
use Rattle.std.proofs.lemmas.Bool.{cases_lt}
use Rattle.grb_core.specs.declared.value.Value.{Value}
use Rattle.grb_kernels.specs.Typed.{entries_of}
use Rattle.grb_semirings.specs.Products.{is_any}
use Rattle.grb_ewise.specs.Ranks.{Rise}
use Rattle.grb_sums.specs.Bits.{value_at}
use Rattle.grb_sums.proofs.Rising.{indices_rise}
use Rattle.grb_push.proofs.Searching.{find-at, find-nowhere}

-- numbers that rise are no less than their places
at_least : (cs : List ℕ) (i : ℕ) → Rise cs → i < length cs → i ≤ get_or cs i 0
at_least cs zero rise h = omega arith
at_least cs (suc i) rise h =
    let before = at_least cs i rise (omega arith) in
    let above = rise i (suc i) (omega arith) h in
    omega (arith, before, above)

-- and where all are below n, as many as come after one are above it
at_most : (n : ℕ) (cs : List ℕ) (d i : ℕ) → Rise cs → All (λ c. c < n) cs → i + suc d ≡ length cs → get_or cs i 0 + d < n
at_most n cs zero i rise below e = let here = below i 0 (omega arith) in omega (arith, here)
at_most n cs (suc d) i rise below e =
    let after = at_most n cs d (suc i) rise below (omega arith) in
    let above = rise i (suc i) (omega arith) (omega arith) in
    omega (arith, after, above)

-- n numbers below n that rise are these numbers
full_place : (n : ℕ) (cs : List ℕ) (i d : ℕ) → Rise cs → All (λ c. c < n) cs → length cs ≡ n → i + suc d ≡ n → get_or cs i 0 ≡ i
full_place n cs i d rise below long e =
    let least = at_least cs i rise (omega (arith, long, e)) in
    let most = at_most n cs d i rise below (omega (arith, long, e)) in
    omega (arith, least, most, e)

module _ {V : Type 0} (value : V → Value) where
  pub stored-read : (vs : List V) (j : ℕ) (x : V) → j < length vs → x ≡ get_or vs j x → value_at value vs j ≡ Some (value x)
  stored-read [] j x h is = absurd (omega arith)
  stored-read (v ∷ vs) zero x h is = ap (λ w. Some (value w)) (sym is)
  stored-read (v ∷ vs) (suc j) x h is = stored-read vs j x (omega arith) is

  -- what stands at a place
  there : (vs : List V) (j : ℕ) → j < length vs → (x : V) × (x ≡ get_or vs j x)
  there [] j h = absurd (omega arith)
  there (v ∷ vs) zero h = (v, refl)
  there (v ∷ vs) (suc j) h = there vs j (omega arith)

  -- a row that has entries meets one
  pub meets_full : (vs : List V) (cs : List ℕ) → 0 < length cs → All (λ c. c < length vs) cs → is_any (value_at value vs) cs ≡ true
  meets_full vs [] some below = absurd (omega arith)
  meets_full vs (c ∷ cs) some below =
      let inside : c < length vs = below zero 0 (omega arith) in
      ap (λ o. is_some o || is_any (value_at value vs) cs) (stored-read vs c (there vs c inside).0 inside (there vs c inside).1)

  stored-past : (vs : List V) (j : ℕ) → length vs ≤ j → value_at value vs j ≡ None
  stored-past [] j h = refl
  stored-past (v ∷ vs) zero h = absurd (omega arith)
  stored-past (v ∷ vs) (suc j) h = stored-past vs j (omega arith)

  indices_of-entries : (cs : List ℕ) (vs : List V) → length cs ≡ length vs → cs ≡ map (λ e. e.0) (entries_of value cs vs)
  indices_of-entries [] vs e = refl
  indices_of-entries (c ∷ cs) [] e = absurd (omega arith)
  indices_of-entries (c ∷ cs) (v ∷ vs) e = ap (λ (t : List ℕ). c ∷ t) (indices_of-entries cs vs (omega arith))

  -- a full vector's values are what it stores
  pub stored_full : (n : ℕ) (cs : List ℕ) (vs : List V) → IsTrue (is_sorted nat_cmp (entries_of value cs vs)) → length cs ≡ length vs → All (λ c. c < n) cs → length cs ≡ n
      → (j : ℕ) → value_at value vs j ≡ find nat_cmp j (entries_of value cs vs)
  stored_full n cs vs h same below long j =
      elim (cases_lt j n) [
        | inl l ↦ inside (n - suc j) (omega (arith, l))
        | inr g ↦ stored-past vs j (omega (arith, g, same, long)) ∙ sym (find-nowhere value j cs vs (λ k l e. let b = below k 0 l in omega (arith, b, e, g)))
      ]
    where
      inside : (d : ℕ) → j + suc d ≡ n → value_at value vs j ≡ find nat_cmp j (entries_of value cs vs)
      inside d e =
          let x = (there vs j (omega (arith, e, same, long))).0 in
          let is = (there vs j (omega (arith, e, same, long))).1 in
          stored-read vs j x (omega (arith, e, same, long)) is
          ∙ sym (find-at value cs vs j j x h (omega (arith, e, long)) same (full_place n cs j d (indices_rise (entries_of value cs vs) cs h (indices_of-entries cs vs same)) below long e) is)
