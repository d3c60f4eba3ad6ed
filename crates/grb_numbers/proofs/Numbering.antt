-- Inner numbers of outer ones, and outer ones of inner ones.
use Rattle.std.proofs.Common.{◌≡◌, ℕ, zero, suc, ◌+◌, ◌-◌, ◌<◌, ◌≤◌, ◌⊎◌, Bool, List, [], ◌∷◌, ◌++◌, map, min, take, length, refl, sym, ap, subst, ◌∙◌, arith, add-one, get_or, lt-ltb, le-ltb, if◌then◌else◌, Option, None, Some, inl, inr}
use Rattle.std.specs.Option.{unwrap_or}
use Rattle.std.proofs.lemmas.Bool.{cases_lt}
use Rattle.grb_numbers.specs.Numbers.{CarriedNumbers, AreCarried, AreChosen, AreNumbered, no_number, place_of, inner_number, outer_number, next_carried}
use Rattle.grb_numbers.proofs.Lists.{place-found, place-at, rise-above}

module _ (n : CarriedNumbers) where
  -- an outer number that was given before, and one that is given here
  pub inner-before : (k : ℕ) → k < n.first → inner_number n k ≡ unwrap_or (place_of k n.carried) no_number
  inner-before k lt = ap (λ (b : Bool). if b then unwrap_or (place_of k n.carried) no_number else length n.carried + (k - n.first)) (lt-ltb k n.first lt)

  pub inner-here : (k : ℕ) → n.first ≤ k → inner_number n k ≡ length n.carried + (k - n.first)
  inner-here k le = ap (λ (b : Bool). if b then unwrap_or (place_of k n.carried) no_number else length n.carried + (k - n.first)) (le-ltb k n.first le)

  -- an inner number that was carried over, and one that is given here
  pub outer-carried : (k : ℕ) → k < length n.carried → outer_number n k ≡ get_or n.carried k 0
  outer-carried k lt = ap (λ (b : Bool). if b then get_or n.carried k 0 else n.first + (k - length n.carried)) (lt-ltb k (length n.carried) lt)

  pub outer-here : (k : ℕ) → length n.carried ≤ k → outer_number n k ≡ n.first + (k - length n.carried)
  outer-here k le = ap (λ (b : Bool). if b then get_or n.carried k 0 else n.first + (k - length n.carried)) (le-ltb k (length n.carried) le)

  -- one more is made
  pub outer-more : (made : ℕ) → length n.carried ≤ made → outer_number n (made + 1) ≡ outer_number n made + 1
  outer-more made le =
      let this = outer-here made le in
      let next = outer-here (made + 1) (omega arith) in
      omega arith

  module _ (are : AreCarried n) where
    few_by : (count : ℕ) → count ≡ length n.carried → count ≤ n.first
    few_by zero is = omega arith
    few_by (suc p) is =
        let lt : p < length n.carried = omega arith in
        let above = rise-above n.carried p are.rising lt in
        let before = are.before p lt in
        omega arith

    -- no more were carried over than were given
    pub few-carried : length n.carried ≤ n.first
    few-carried = few_by (length n.carried) refl

    pub made-few : (made : ℕ) → length n.carried ≤ made → made ≤ outer_number n made
    made-few made le = let is = outer-here made le in let few = few-carried in omega arith

    -- the inner number of the outer one
    pub inner-outer : (k : ℕ) → inner_number n (outer_number n k) ≡ k
    inner-outer k =
        elim (cases_lt k (length n.carried)) as (λ _. inner_number n (outer_number n k) ≡ k) [
          | inl lt ↦
              ap (inner_number n) (outer-carried k lt)
              ∙ inner-before (get_or n.carried k 0) (are.before k lt)
              ∙ ap (λ (o : Option ℕ). unwrap_or o no_number) (place-at n.carried k are.rising lt)
          | inr le ↦
              let is = outer-here k le in
              let there = inner-here (outer_number n k) (omega arith) in
              omega arith
        ]

    -- what is known of an outer number that was given before, by its place
    outer_by : (k : ℕ) (o : Option ℕ) → place_of k n.carried ≡ o → k < n.first → (inner_number n k ≡ no_number) ⊎ ((inner_number n k < length n.carried) × (outer_number n (inner_number n k) ≡ k))
    outer_by k None e lt = inl (inner-before k lt ∙ ap (λ (o : Option ℕ). unwrap_or o no_number) e)
    outer_by k (Some p) e lt =
        let is : inner_number n k ≡ p = inner-before k lt ∙ ap (λ (o : Option ℕ). unwrap_or o no_number) e in
        let found = place-found k n.carried p e in
        inr (subst (λ (q : ℕ). q < length n.carried) (sym is) found.0, ap (outer_number n) is ∙ outer-carried p found.0 ∙ found.1)

    -- an outer number has no inner one, or is the outer one of it
    pub outer-inner : (k : ℕ) → (inner_number n k ≡ no_number) ⊎ (outer_number n (inner_number n k) ≡ k)
    outer-inner k =
        elim (cases_lt k n.first) as (λ _. (inner_number n k ≡ no_number) ⊎ (outer_number n (inner_number n k) ≡ k)) [
          | inl lt ↦ elim (outer_by k (place_of k n.carried) refl lt) as (λ _. (inner_number n k ≡ no_number) ⊎ (outer_number n (inner_number n k) ≡ k)) [ inl none ↦ inl none | inr both ↦ inr both.1 ]
          | inr le ↦
              let is = inner-here k le in
              let there = outer-here (inner_number n k) (omega arith) in
              inr (omega arith)
        ]

    -- the inner number of one that was given is below the count of those that were made
    pub inner-below : (made k : ℕ) → length n.carried ≤ made → k < outer_number n made → (inner_number n k ≡ no_number) ⊎ (inner_number n k < made)
    inner-below made k le lt =
        elim (cases_lt k n.first) as (λ _. (inner_number n k ≡ no_number) ⊎ (inner_number n k < made)) [
          | inl before ↦ elim (outer_by k (place_of k n.carried) refl before) as (λ _. (inner_number n k ≡ no_number) ⊎ (inner_number n k < made)) [ inl none ↦ inl none | inr both ↦ inr (let below = both.0 in omega arith) ]
          | inr after ↦
              let is = inner-here k after in
              let count = outer-here made le in
              inr (omega arith)
        ]

    -- and of one that was not given is not
    pub inner-above : (made k : ℕ) → length n.carried ≤ made → outer_number n made ≤ k → made ≤ inner_number n k
    inner-above made k le ge =
        let count = outer-here made le in
        let is = inner-here k (omega arith) in
        omega arith

    -- outer numbers rise
    pub outer-rising : (i j : ℕ) → i < j → outer_number n i < outer_number n j
    outer-rising i j lt =
        elim (cases_lt j (length n.carried)) as (λ _. outer_number n i < outer_number n j) [
          | inl j_in ↦
              let i_is = outer-carried i (omega arith) in
              let j_is = outer-carried j j_in in
              let below = are.rising i j lt j_in in
              omega arith
          | inr j_out ↦
              let j_is = outer-here j j_out in
              elim (cases_lt i (length n.carried)) as (λ _. outer_number n i < outer_number n j) [
                | inl i_in ↦
                    let i_is = outer-carried i i_in in
                    let before = are.before i i_in in
                    omega arith
                | inr i_out ↦
                    let i_is = outer-here i i_out in
                    omega arith
              ]
        ]

module _ (f : ℕ → ℕ) where
  pub get_or-map : (ks : List ℕ) (p : ℕ) → p < length ks → get_or (map f ks) p 0 ≡ f (get_or ks p 0)
  get_or-map [] p lt = absurd (omega arith)
  get_or-map (k ∷ ks) zero lt = refl
  get_or-map (k ∷ ks) (suc p) lt = get_or-map ks p (omega arith)

  pub length-map : (ks : List ℕ) → length (map f ks) ≡ length ks
  length-map [] = refl
  length-map (k ∷ ks) = ap suc (length-map ks)

-- the numbers of the next generation are numbers
module _ (n : CarriedNumbers) (are : AreCarried n) (inner : List ℕ) (made : ℕ) (chosen : AreChosen inner made) where
  abbrev outer : List ℕ
  outer = map (outer_number n) inner

  pub length-outer : length outer ≡ length inner
  length-outer = length-map (outer_number n) inner

  outer_at : (p : ℕ) → p < length inner → get_or outer p 0 ≡ outer_number n (get_or inner p 0)
  outer_at p lt = get_or-map (outer_number n) inner p lt

  pub next_are_carried : AreCarried (next_carried n inner made)
  next_are_carried = record {
    rising = λ i j lt j_in.
        let count = length-outer in
        let i_is = outer_at i (omega arith) in
        let j_is = outer_at j (omega arith) in
        let rise = outer-rising n are (get_or inner i 0) (get_or inner j 0) (chosen.rising i j lt (omega arith)) in
        omega arith;
    before = λ i i_in.
        let count = length-outer in
        let i_is = outer_at i (omega arith) in
        let rise = outer-rising n are (get_or inner i 0) made (chosen.below i (omega arith)) in
        omega arith;
  }

  -- none of them is made twice
  pub next-count : outer_number (next_carried n inner made) (length inner) ≡ outer_number n made
  next-count =
      let count = length-outer in
      let is = outer-here (next_carried n inner made) (length inner) (omega arith) in
      omega arith

  -- none of them is past the last number
  pub chosen-small : AreNumbered n made → (p : ℕ) → p < length inner → min (outer_number n (get_or inner p 0)) no_number ≡ outer_number n (get_or inner p 0)
  chosen-small numbered p lt =
      let rise = outer-rising n are (get_or inner p 0) made (chosen.below p lt) in
      let room = numbered.room in
      omega arith

pub made-small : (n : CarriedNumbers) (made : ℕ) → AreNumbered n made → min (outer_number n made) no_number ≡ outer_number n made
made-small n made numbered = let room = numbered.room in omega arith

-- one number more
module _ {X : Type 0} (number : X → ℕ) (f : ℕ → ℕ) where
  more : (xs : List X) (k : ℕ) (d : X) → k < length xs → map f (map number (take (suc k) xs)) ≡ map f (map number (take k xs)) ++ f (number (get_or xs k d)) ∷ []
  more [] k d lt = absurd (omega arith)
  more (x ∷ xs) zero d lt = refl
  more (x ∷ xs) (suc k) d lt = ap (λ t. f (number x) ∷ t) (more xs k d (omega arith))

  pub numbers-more : (xs : List X) (k : ℕ) (d : X) → k < length xs → map f (map number (take (k + 1) xs)) ≡ map f (map number (take k xs)) ++ f (number (get_or xs k d)) ∷ []
  numbers-more xs k d lt = ap (λ m. map f (map number (take m xs))) (add-one k) ∙ more xs k d lt

  pub number-at : (xs : List X) (k : ℕ) (d : X) → k < length xs → get_or (map number xs) k 0 ≡ number (get_or xs k d)
  number-at [] k d lt = absurd (omega arith)
  number-at (x ∷ xs) zero d lt = refl
  number-at (x ∷ xs) (suc k) d lt = number-at xs k d (omega arith)

  pub count-numbers : (xs : List X) → length (map number xs) ≡ length xs
  count-numbers [] = refl
  count-numbers (x ∷ xs) = ap suc (count-numbers xs)
