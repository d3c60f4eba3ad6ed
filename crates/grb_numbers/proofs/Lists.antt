-- Objects of a list by number, and the places of numbers that rise.
use Rattle.std.proofs.Common.{◌≡◌, ℕ, zero, suc, ◌+◌, ◌<◌, ◌≤◌, Bool, true, false, List, [], ◌∷◌, map, length, refl, sym, ap, subst, ◌∙◌, arith, get_or, eqb, eqb-true, eq-eqb, if◌then◌else◌, Option, None, Some, option_map, slice_set, inl, inr}
use Rattle.std.proofs.lemmas.Bool.{cases_lt, false≢true}
use Rattle.std.specs.List.{range_with_len}
use Rattle.grb_call.specs.Shapes.{object_at}
use Rattle.grb_numbers.specs.Numbers.{place_of}

module _ {X : Type 0} where
  -- no object stands past the end
  pub object_at-past : (xs : List (Option X)) (k : ℕ) → length xs ≤ k → object_at xs k ≡ None
  object_at-past [] k le = refl
  object_at-past (x ∷ xs) zero le = absurd (omega arith)
  object_at-past (x ∷ xs) (suc k) le = object_at-past xs k (omega arith)

  pub object_at-made : (xs : List (Option X)) (k : ℕ) (x : X) → object_at xs k ≡ Some x → k < length xs
  object_at-made [] k x e = cc
  object_at-made (y ∷ xs) zero x e = omega arith
  object_at-made (y ∷ xs) (suc k) x e = let rest = object_at-made xs k x e in omega arith

  -- lists of one length with the same objects are one
  pub same_objects : (xs ys : List (Option X)) → length xs ≡ length ys → ((k : ℕ) → k < length xs → object_at xs k ≡ object_at ys k) → xs ≡ ys
  same_objects [] [] e h = refl
  same_objects [] (y ∷ ys) e h = absurd (omega arith)
  same_objects (x ∷ xs) [] e h = absurd (omega arith)
  same_objects (x ∷ xs) (y ∷ ys) e h =
      let first : x ≡ y = h 0 (omega arith) in
      let rest : xs ≡ ys = same_objects xs ys (omega arith) (λ k lt. h (suc k) (omega arith)) in
      λ i. first i ∷ rest i

  -- the list of a function's objects
  pub object_at-range : (f : ℕ → Option X) (a n k : ℕ) → k < n → object_at (map f (range_with_len a n)) k ≡ f (a + k)
  object_at-range f a zero k lt = absurd (omega arith)
  object_at-range f a (suc n) zero lt = ap f (omega arith)
  object_at-range f a (suc n) (suc k) lt = object_at-range f (a + 1) n k (omega arith) ∙ ap f (omega arith)

  pub object_at-set_same : (xs : List (Option X)) (k : ℕ) (o : Option X) → k < length xs → object_at (slice_set xs k o) k ≡ o
  object_at-set_same [] k o lt = absurd (omega arith)
  object_at-set_same (x ∷ xs) zero o lt = refl
  object_at-set_same (x ∷ xs) (suc k) o lt = object_at-set_same xs k o (omega arith)

  -- the objects of these numbers
  pub object_at-map : (f : ℕ → Option X) (ks : List ℕ) (p : ℕ) → p < length ks → object_at (map f ks) p ≡ f (get_or ks p 0)
  object_at-map f [] p lt = absurd (omega arith)
  object_at-map f (k ∷ ks) zero lt = refl
  object_at-map f (k ∷ ks) (suc p) lt = object_at-map f ks p (omega arith)

-- a place that is found
found_by : (b : Bool) (k c : ℕ) (cs : List ℕ) (o : Option ℕ) (p : ℕ) → eqb k c ≡ b → ((q : ℕ) → o ≡ Some q → (q < length cs) × (get_or cs q 0 ≡ k)) →
    (if b then Some 0 else option_map suc o) ≡ Some p → (p < length (c ∷ cs)) × (get_or (c ∷ cs) p 0 ≡ k)
found_by true k c cs o zero is rest e = (omega arith, sym (eqb-true k c is))
found_by true k c cs o (suc p) is rest e = cc
found_by false k c cs None p is rest e = cc
found_by false k c cs (Some q) zero is rest e = cc
found_by false k c cs (Some q) (suc p) is rest e =
    let same : q ≡ p = cc in
    let found = rest q refl in
    subst (λ r. (suc r < suc (length cs)) × (get_or cs r 0 ≡ k)) same (omega (arith, found.0), found.1)

pub place-found : (k : ℕ) (cs : List ℕ) (p : ℕ) → place_of k cs ≡ Some p → (p < length cs) × (get_or cs p 0 ≡ k)
place-found k [] p e = cc
place-found k (c ∷ cs) p e = found_by (eqb k c) k c cs (place_of k cs) p refl (λ q is. place-found k cs q is) e

-- a number that is there has a place
there_by : (b : Bool) (o : Option ℕ) → ((b ≡ false) → (q : ℕ) × (o ≡ Some q)) → (q : ℕ) × ((if b then Some 0 else option_map suc o) ≡ Some q)
there_by true o rest = (0, refl)
there_by false o rest = let r = rest refl in (suc r.0, ap (option_map suc) r.1)

pub place-there : (k : ℕ) (cs : List ℕ) (p : ℕ) → p < length cs → get_or cs p 0 ≡ k → (q : ℕ) × (place_of k cs ≡ Some q)
place-there k [] p lt e = absurd (omega arith)
place-there k (c ∷ cs) zero lt e = there_by (eqb k c) (place_of k cs) (λ not. absurd (false≢true (sym not ∙ eq-eqb k c (sym e))))
place-there k (c ∷ cs) (suc p) lt e = there_by (eqb k c) (place_of k cs) (λ not. place-there k cs p (omega arith) e)

abbrev pub Rise : List ℕ → Type 0
Rise cs = (i j : ℕ) → i < j → j < length cs → get_or cs i 0 < get_or cs j 0

-- numbers that rise stand at one place each
pub rise-apart : (cs : List ℕ) (i j : ℕ) → Rise cs → i < length cs → j < length cs → get_or cs i 0 ≡ get_or cs j 0 → i ≡ j
rise-apart cs i j rise i_in j_in e =
    elim (cases_lt i j) as (λ _. i ≡ j) [
      | inl lt ↦ let below = rise i j lt j_in in absurd (omega arith)
      | inr le ↦ elim (cases_lt j i) as (λ _. i ≡ j) [ inl lt ↦ let below = rise j i lt i_in in absurd (omega arith) | inr ge ↦ omega arith ]
    ]

pub place-at : (cs : List ℕ) (p : ℕ) → Rise cs → p < length cs → place_of (get_or cs p 0) cs ≡ Some p
place-at cs p rise lt =
    let there = place-there (get_or cs p 0) cs p lt refl in
    let found = place-found (get_or cs p 0) cs there.0 there.1 in
    there.1 ∙ ap Some (rise-apart cs there.0 p rise found.0 lt found.1)

-- each is at least its place
pub rise-above : (cs : List ℕ) (p : ℕ) → Rise cs → p < length cs → p ≤ get_or cs p 0
rise-above cs zero rise lt = omega arith
rise-above cs (suc p) rise lt =
    let below = rise-above cs p rise (omega arith) in
    let step = rise p (suc p) (omega arith) lt in
    omega arith

pub rise-steps : (cs : List ℕ) → Rise cs → (i j : ℕ) → i ≤ j → j < length cs → get_or cs i 0 ≤ get_or cs j 0
rise-steps cs rise i j le lt =
    elim (cases_lt i j) as (λ _. get_or cs i 0 ≤ get_or cs j 0) [
      | inl below ↦ let step = rise i j below lt in omega arith
      | inr above ↦ let same : i ≡ j = omega arith in let one = ap (λ k. get_or cs k 0) same in omega arith
    ]

-- a number that is nowhere has no place
absent_by : (k : ℕ) (cs : List ℕ) (o : Option ℕ) → place_of k cs ≡ o → ((p : ℕ) → p < length cs → get_or cs p 0 ≡ k → ⊥) → o ≡ None
absent_by k cs None e h = refl
absent_by k cs (Some p) e h = let found = place-found k cs p e in absurd (h p found.0 found.1)

pub place-absent : (k : ℕ) (cs : List ℕ) → ((p : ℕ) → p < length cs → get_or cs p 0 ≡ k → ⊥) → place_of k cs ≡ None
place-absent k cs h = absent_by k cs (place_of k cs) refl h
