-- The objects of one sort as they are seen from outside: by number, and after a change inside.
use Rattle.std.proofs.Common.{◌≡◌, ◌≢◌, ℕ, ◌+◌, ◌<◌, List, [], ◌∷◌, ◌++◌, length, sym, ap, ◌∙◌, arith, Option, Some, slice_set, inl, inr, length-set}
use Rattle.std.proofs.lemmas.Bool.{cases_lt}
use Rattle.std.proofs.lemmas.List.FromFn.{length-map-range_with_len}
use Rattle.grb_call.specs.Shapes.{object_at}
use Rattle.grb_call.proofs.ObjectLists.{length-push, object_at-push, object_at-end, object_at-set_other}
use Rattle.grb_numbers.specs.Numbers.{CarriedNumbers, AreCarried, AreNumbered, no_number, inner_number, outer_number}
use Rattle.grb_numbers.specs.Seen.{seen_objects}
use Rattle.grb_numbers.proofs.Lists.{object_at-past, object_at-made, same_objects, object_at-range, object_at-set_same}
use Rattle.grb_numbers.proofs.Numbering.{inner-outer, outer-inner, inner-below, inner-above, made-few, outer-more}

module _ {X : Type 0} (n : CarriedNumbers) where
  pub seen-length : (xs : List (Option X)) → length (seen_objects n xs) ≡ outer_number n (length xs)
  seen-length xs = length-map-range_with_len (λ k. object_at xs (inner_number n k)) 0 (outer_number n (length xs))

  pub seen-given : (xs : List (Option X)) (k : ℕ) → k < outer_number n (length xs) → object_at (seen_objects n xs) k ≡ object_at xs (inner_number n k)
  seen-given xs k lt = object_at-range (λ k. object_at xs (inner_number n k)) 0 (outer_number n (length xs)) k lt ∙ ap (λ m. object_at xs (inner_number n m)) (omega arith)

  module _ (are : AreCarried n) (xs : List (Option X)) (numbered : AreNumbered n (length xs)) where
    -- at each outer number stands the object of its inner one
    pub seen-at : (k : ℕ) → object_at (seen_objects n xs) k ≡ object_at xs (inner_number n k)
    seen-at k =
        elim (cases_lt k (outer_number n (length xs))) as (λ _. object_at (seen_objects n xs) k ≡ object_at xs (inner_number n k)) [
          | inl lt ↦ seen-given xs k lt
          | inr ge ↦
              let count = seen-length xs in
              object_at-past (seen_objects n xs) k (omega arith) ∙ sym (object_at-past xs (inner_number n k) (inner-above n are (length xs) k numbered.carried ge))
        ]

    few : length xs < no_number
    few = let most = made-few n are (length xs) numbered.carried in let room = numbered.room in omega arith

    -- one more object
    push-length : (o : Option X) → outer_number n (length (xs ++ o ∷ [])) ≡ outer_number n (length xs) + 1
    push-length o = ap (outer_number n) (length-push xs o) ∙ outer-more n (length xs) numbered.carried

    push-below : (o : Option X) (k : ℕ) → k < outer_number n (length xs) → object_at (xs ++ o ∷ []) (inner_number n k) ≡ object_at xs (inner_number n k)
    push-below o k lt =
        elim (inner-below n are (length xs) k numbered.carried lt) as (λ _. object_at (xs ++ o ∷ []) (inner_number n k) ≡ object_at xs (inner_number n k)) [
          | inl none ↦
              let room = few in
              let count = length-push xs o in
              object_at-past (xs ++ o ∷ []) (inner_number n k) (omega arith) ∙ sym (object_at-past xs (inner_number n k) (omega arith))
          | inr below ↦ object_at-push xs o (inner_number n k) below
        ]

    push-at : (o : Option X) (k : ℕ) → k < outer_number n (length xs) + 1 → object_at (seen_objects n (xs ++ o ∷ [])) k ≡ object_at (seen_objects n xs ++ o ∷ []) k
    push-at o k lt =
        let count = seen-length xs in
        let more = push-length o in
        seen-given (xs ++ o ∷ []) k (omega arith)
        ∙ elim (cases_lt k (outer_number n (length xs))) as (λ _. object_at (xs ++ o ∷ []) (inner_number n k) ≡ object_at (seen_objects n xs ++ o ∷ []) k) [
          | inl below ↦ push-below o k below ∙ sym (object_at-push (seen_objects n xs) o k (omega arith) ∙ seen-at k)
          | inr past ↦
              let last : k ≡ outer_number n (length xs) = omega arith in
              let end : k ≡ length (seen_objects n xs) = omega arith in
              ap (λ m. object_at (xs ++ o ∷ []) (inner_number n m)) last
              ∙ ap (object_at (xs ++ o ∷ [])) (inner-outer n are (length xs))
              ∙ object_at-end xs o
              ∙ sym (ap (object_at (seen_objects n xs ++ o ∷ [])) end ∙ object_at-end (seen_objects n xs) o)
        ]

    pub seen-push : (o : Option X) → seen_objects n xs ++ o ∷ [] ≡ seen_objects n (xs ++ o ∷ [])
    seen-push o =
        let count = seen-length xs in
        let counts = seen-length (xs ++ o ∷ []) in
        let more = push-length o in
        let pushed = length-push (seen_objects n xs) o in
        sym (same_objects (seen_objects n (xs ++ o ∷ [])) (seen_objects n xs ++ o ∷ []) (omega arith) (λ k lt. push-at o k (omega arith)))

    -- another object in the place of one that is there
    module _ (k : ℕ) (x : X) (there : object_at (seen_objects n xs) k ≡ Some x) (o : Option X) where
      inside_there : object_at xs (inner_number n k) ≡ Some x
      inside_there = sym (seen-at k) ∙ there

      made : inner_number n k < length xs
      made = object_at-made xs (inner_number n k) x inside_there

      back : outer_number n (inner_number n k) ≡ k
      back = elim (outer-inner n are k) as (λ _. outer_number n (inner_number n k) ≡ k) [ inl none ↦ absurd (let lt = made in let room = few in omega arith) | inr is ↦ is ]

      apart : (j : ℕ) → j ≢ k → inner_number n k ≢ inner_number n j
      apart j other e =
          elim (outer-inner n are j) as (λ _. ⊥) [
            | inl none ↦ let lt = made in let room = few in omega arith
            | inr is ↦ other (sym is ∙ ap (outer_number n) (sym e) ∙ back)
          ]

      abbrev changed : List (Option X)
      changed = slice_set xs (inner_number n k) o

      set_other : (j : ℕ) → j ≢ k → object_at changed (inner_number n j) ≡ object_at (slice_set (seen_objects n xs) k o) j
      set_other j other =
          object_at-set_other xs (inner_number n k) (inner_number n j) o (apart j other)
          ∙ sym (object_at-set_other (seen_objects n xs) k j o (λ e. other (sym e)) ∙ seen-at j)

      set-at : (j : ℕ) → j < outer_number n (length xs) → object_at (seen_objects n changed) j ≡ object_at (slice_set (seen_objects n xs) k o) j
      set-at j lt =
          let same : length changed ≡ length xs = length-set xs (inner_number n k) o in
          let all = ap (outer_number n) same in
          let count = seen-length xs in
          seen-given changed j (omega arith)
          ∙ elim (cases_lt j k) as (λ _. object_at changed (inner_number n j) ≡ object_at (slice_set (seen_objects n xs) k o) j) [
            | inl below ↦ set_other j (λ e. omega arith)
            | inr above ↦ elim (cases_lt k j) as (λ _. object_at changed (inner_number n j) ≡ object_at (slice_set (seen_objects n xs) k o) j) [
              | inl below ↦ set_other j (λ e. omega arith)
              | inr none ↦
                  let here : j ≡ k = omega arith in
                  ap (λ m. object_at changed (inner_number n m)) here
                  ∙ object_at-set_same xs (inner_number n k) o made
                  ∙ sym (ap (object_at (slice_set (seen_objects n xs) k o)) here ∙ object_at-set_same (seen_objects n xs) k o (omega arith))
            ]
          ]

      pub seen-set : slice_set (seen_objects n xs) k o ≡ seen_objects n (slice_set xs (inner_number n k) o)
      seen-set =
          let same : length changed ≡ length xs = length-set xs (inner_number n k) o in
          let all = ap (outer_number n) same in
          let count = seen-length xs in
          let counts = seen-length changed in
          let set = length-set (seen_objects n xs) k o in
          sym (same_objects (seen_objects n changed) (slice_set (seen_objects n xs) k o) (omega arith) (λ j lt. set-at j (omega arith)))
