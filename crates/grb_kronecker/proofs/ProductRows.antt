-- The numbers of the rows of a Kronecker product: each of the first with each of the second.
use Rattle.std.proofs.Common.{◌≡◌, ℕ, zero, suc, ◌+◌, ◌*◌, ◌/◌, ◌%◌, ◌<◌, ◌≤◌, List, [], ◌∷◌, ◌++◌, length, get_or, refl, sym, ap, ◌∙◌, arith, inl, inr, zero-mul, zero-add, suc-mul, add_comm, add_assoc, mul-zero}
use Rattle.std.specs.Prelude.{◌⊎◌, map}
use Rattle.std.proofs.lemmas.Bool.{cases_lt, cases_eq}
use Rattle.std.proofs.lemmas.List.{length-append, length-map, get_or_append_left, get_or-append-add}
use Rattle.std.proofs.lemmas.Nat.{div-add-mod', div_below, mod_below, row_fits, le-div}
use Rattle.grb_kronecker.specs.Rows.{product_rows}

get_or-row : (i r : ℕ) (ps : List ℕ) (l : ℕ) → l < length ps → get_or (map (λ p. i * r + p) ps) l 0 ≡ i * r + get_or ps l 0
get_or-row i r [] l h = absurd (omega arith)
get_or-row i r (p ∷ ps) zero h = refl
get_or-row i r (p ∷ ps) (suc l) h = get_or-row i r ps l (omega arith)

pub length-product : (r : ℕ) (is ps : List ℕ) → length (product_rows r is ps) ≡ length is * length ps
length-product r [] ps = sym (zero-mul (length ps))
length-product r (i ∷ is) ps =
    let rest = length-product r is ps in
    let here = length-append (map (λ p. i * r + p) ps) (product_rows r is ps) in
    let long = length-map ps (λ p. i * r + p) in
    here ∙ ap (λ n. n + length (product_rows r is ps)) long ∙ ap (λ n. length ps + n) rest ∙ add_comm (length ps) (length is * length ps) ∙ sym (suc-mul (length is) (length ps))

-- the row of the k'th of the first with the l'th of the second
pub get_or-product : (r : ℕ) (is ps : List ℕ) (k l : ℕ) → k < length is → l < length ps → get_or (product_rows r is ps) (k * length ps + l) 0 ≡ get_or is k 0 * r + get_or ps l 0
get_or-product r [] ps k l h m = absurd (omega arith)
get_or-product r (i ∷ is) ps zero l h m =
    let long = length-map ps (λ p. i * r + p) in
    let here : zero * length ps + l ≡ l = ap (λ n. n + l) (zero-mul (length ps)) ∙ zero-add l in
    ap (λ n. get_or (map (λ p. i * r + p) ps ++ product_rows r is ps) n 0) here
    ∙ get_or_append_left (map (λ p. i * r + p) ps) (product_rows r is ps) 0 l (omega (arith, long, m))
    ∙ get_or-row i r ps l m
get_or-product r (i ∷ is) ps (suc k) l h m =
    let long = length-map ps (λ p. i * r + p) in
    let on : suc k * length ps + l ≡ length (map (λ p. i * r + p) ps) + (k * length ps + l) =
    ap (λ n. n + l) (suc-mul k (length ps) ∙ add_comm (k * length ps) (length ps)) ∙ add_assoc (length ps) (k * length ps) l ∙ ap (λ n. n + (k * length ps + l)) (sym long) in
    ap (λ n. get_or (map (λ p. i * r + p) ps ++ product_rows r is ps) n 0) on
    ∙ get_or-append-add (map (λ p. i * r + p) ps) (product_rows r is ps) (k * length ps + l) 0
    ∙ get_or-product r is ps k l (omega arith) m

-- the rows rise
module _ (r : ℕ) (is ps : List ℕ) (rise_is : (i j : ℕ) → i < j → j < length is → get_or is i 0 < get_or is j 0)
    (rise_ps : (i j : ℕ) → i < j → j < length ps → get_or ps i 0 < get_or ps j 0) (below : (l : ℕ) → l < length ps → get_or ps l 0 < r) where
  at_place : (t : ℕ) → t < length is * length ps → 0 < length ps → get_or (product_rows r is ps) t 0 ≡ get_or is (t / length ps) 0 * r + get_or ps (t % length ps) 0
  at_place t h some =
      ap (λ n. get_or (product_rows r is ps) n 0) (sym (div-add-mod' t (length ps)))
      ∙ get_or-product r is ps (t / length ps) (t % length ps) (div_below t (length ps) (length is) some h) (mod_below t (length ps) some)

  rise_parts : (k k2 l l2 : ℕ) → k2 < length is → l < length ps → l2 < length ps → (k < k2) ⊎ ((k ≡ k2) × (l < l2))
      → get_or is k 0 * r + get_or ps l 0 < get_or is k2 0 * r + get_or ps l2 0
  rise_parts k k2 l l2 a b d (inl h) =
      let up = row_fits (get_or is k 0) r (get_or is k2 0) r (rise_is k k2 h a) (omega arith) in
      let in_row = below l b in
      omega (arith, up, in_row)
  rise_parts k k2 l l2 a b d (inr h) =
      let up = rise_ps l l2 h.1 d in
      let e = ap (λ n. get_or is n 0 * r) h.0 in
      omega (arith, up, e)

  quotients : (t t2 : ℕ) → t < t2 → 0 < length ps → t / length ps ≤ t2 / length ps
  quotients t t2 h some =
      let e = div-add-mod' t (length ps) in
      le-div (t / length ps) t2 (length ps) some (omega (arith, e, h))

  parts : (t t2 : ℕ) → t < t2 → 0 < length ps → (t / length ps < t2 / length ps) ⊎ ((t / length ps ≡ t2 / length ps) × (t % length ps < t2 % length ps))
  parts t t2 h some =
      let up = quotients t t2 h some in
      elim (cases_lt (t / length ps) (t2 / length ps)) [
        | inl l ↦ inl l
        | inr l ↦
            let same : t / length ps ≡ t2 / length ps = omega (arith, up, l) in
            let here = div-add-mod' t (length ps) in
            let there = div-add-mod' t2 (length ps) in
            let times = ap (λ n. n * length ps) same in
            inr (same, omega (arith, here, there, times, h))
      ]

  some_of : (n t : ℕ) → t < length is * n → 0 < n
  some_of zero t h = let e = mul-zero (length is) in absurd (omega (arith, e, h))
  some_of (suc n) t h = omega arith

  pub product-rise : (t t2 : ℕ) → t < t2 → t2 < length (product_rows r is ps) → get_or (product_rows r is ps) t 0 < get_or (product_rows r is ps) t2 0
  product-rise t t2 h l =
      let long = length-product r is ps in
      let l2 : t2 < length is * length ps = omega (arith, long, l) in
      let l1 : t < length is * length ps = omega (arith, h, l2) in
      let some = some_of (length ps) t2 l2 in
      let here = at_place t l1 some in
      let there = at_place t2 l2 some in
      let up = rise_parts (t / length ps) (t2 / length ps) (t % length ps) (t2 % length ps)
      (div_below t2 (length ps) (length is) some l2) (mod_below t (length ps) some) (mod_below t2 (length ps) some) (parts t t2 h some) in
      omega (arith, here, there, up)

-- a number is in a list or not
pub find_place : (xs : List ℕ) (i : ℕ) → ((k : ℕ) × (k < length xs) × (get_or xs k 0 ≡ i)) ⊎ ((k : ℕ) → k < length xs → get_or xs k 0 ≡ i → ⊥)
find_place [] i = inr (λ k h e. absurd (omega (arith, h)))
find_place (x ∷ xs) i =
    elim (cases_eq x i) [
      | inl e ↦ inl (0, omega arith, e)
      | inr n ↦ elim (find_place xs i) [
        | inl h ↦ inl (suc h.0, next h.0 (length xs) h.1, h.2)
        | inr h ↦ inr (none x xs i n h)
      ]
    ]
  where
    next : (k n : ℕ) → k < n → suc k < suc n
    next k n h = omega arith

    none : (x : ℕ) (xs : List ℕ) (i : ℕ) → (x ≡ i → ⊥) → ((k : ℕ) → k < length xs → get_or xs k 0 ≡ i → ⊥) → (k : ℕ) → k < length (x ∷ xs) → get_or (x ∷ xs) k 0 ≡ i → ⊥
    none x xs i n h zero l e = n e
    none x xs i n h (suc k) l e = h k (omega arith) e
