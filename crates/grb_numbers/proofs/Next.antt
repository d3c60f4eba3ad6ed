-- The next generation's numbers show the same store.
use Rattle.std.proofs.Common.{◌≡◌, ℕ, zero, suc, ◌<◌, ◌≤◌, List, [], ◌∷◌, length, map, get_or, refl, sym, ap, subst, ◌∙◌, arith, Option, None, Some, inl, inr}
use Rattle.std.specs.Option.{unwrap_or}
use Rattle.std.proofs.lemmas.List.Elements.{at_from_Contains}
use Rattle.grb_call.specs.declared.ids.MatrixId.{MatrixId}
use Rattle.grb_call.specs.declared.ids.VectorId.{VectorId}
use Rattle.grb_call.specs.Shapes.{object_at}
use Rattle.grb_call.specs.Store.{Store}
use Rattle.grb_numbers.specs.Laws.{HaveAllLive, NextNumbersShowTheSame, ShowTheSame, matrix_numbers, vector_numbers, next_numbers, carried_store}
use Rattle.grb_numbers.specs.Numbers.{CarriedNumbers, NumbersSeen, AreCarried, AreNumbered, no_number, place_of, inner_number, next_carried, outer_number}
use Rattle.grb_numbers.specs.Seen.{AreNumbersOf, seen_objects, seen_store}
use Rattle.grb_numbers.proofs.Lists.{object_at-past, object_at-made, object_at-map, place-found, place-there, rise-above, same_objects}
use Rattle.grb_numbers.proofs.Numbering.{get_or-map, inner-before, inner-outer, length-map, length-outer, made-few, next-count, next_are_carried, outer-inner}
use Rattle.grb_numbers.proofs.SeenLists.{seen-given, seen-length}

map-map : {X Y : Type 0} (f : ℕ → Y) (number : X → ℕ) (xs : List X) → map (λ x. f (number x)) xs ≡ map f (map number xs)
map-map f number [] = refl
map-map f number (x ∷ xs) = ap (λ t. f (number x) ∷ t) (map-map f number xs)

count-map : {Y : Type 0} (f : ℕ → Y) (ks : List ℕ) → length (map f ks) ≡ length ks
count-map f [] = refl
count-map f (k ∷ ks) = ap suc (count-map f ks)

module _ {X : Type 0} (n : CarriedNumbers) (are : AreCarried n) (xs : List (Option X)) (numbered : AreNumbered n (length xs)) (inner : List ℕ) (live : HaveAllLive xs inner) where
  abbrev next : CarriedNumbers
  next = next_carried n inner (length xs)

  abbrev objects : List (Option X)
  objects = map (object_at xs) inner

  pub next_carried-are : AreCarried next
  next_carried-are = next_are_carried n are inner (length xs) live.chosen

  objects-count : length objects ≡ length inner
  objects-count = count-map (object_at xs) inner

  next_count : outer_number next (length objects) ≡ outer_number n (length xs)
  next_count = ap (outer_number next) objects-count ∙ next-count n are inner (length xs) live.chosen

  pub next_numbered : AreNumbered next (length objects)
  next_numbered =
      let outer = length-outer n are inner (length xs) live.chosen in
      let count = objects-count in
      let same = next_count in
      let room = numbered.room in
      record { carried = omega arith; room = omega arith }

  few_by : (count : ℕ) → count ≡ length inner → count ≤ length xs
  few_by zero is = omega arith
  few_by (suc p) is =
      let lt : p < length inner = omega arith in
      let above = rise-above inner p live.chosen.rising lt in
      let below = live.chosen.below p lt in
      omega arith

  few : length inner < no_number
  few =
      let chosen = few_by (length inner) refl in
      let most = made-few n are (length xs) numbered.carried in
      let room = numbered.room in
      omega arith

  -- where an outer number was carried over, the object is the same
  found : (k p : ℕ) → place_of k (map (outer_number n) inner) ≡ Some p → object_at objects p ≡ object_at xs (inner_number n k)
  found k p e =
      let at = place-found k (map (outer_number n) inner) p e in
      let count = length-map (outer_number n) inner in
      let lt : p < length inner = omega (arith, at.0) in
      let is : outer_number n (get_or inner p 0) ≡ k = sym (get_or-map (outer_number n) inner p lt) ∙ at.1 in
      object_at-map (object_at xs) inner p lt ∙ ap (object_at xs) (sym (inner-outer n are (get_or inner p 0)) ∙ ap (inner_number n) is)

  -- and where it was not, there was none
  none_by : (k : ℕ) (o : Option X) → object_at xs (inner_number n k) ≡ o → place_of k (map (outer_number n) inner) ≡ None → o ≡ None
  none_by k None at e = refl
  none_by k (Some x) at e =
      let place = at_from_Contains inner (inner_number n k) (live.all (inner_number n k) x at) in
      let lt = object_at-made xs (inner_number n k) x at in
      let most = made-few n are (length xs) numbered.carried in
      let room = numbered.room in
      let back : outer_number n (inner_number n k) ≡ k =
      elim (outer-inner n are k) as (λ _. outer_number n (inner_number n k) ≡ k) [ inl none ↦ absurd (omega arith) | inr is ↦ is ] in
      let count = length-map (outer_number n) inner in
      let here : get_or (map (outer_number n) inner) place.0 0 ≡ k = get_or-map (outer_number n) inner place.0 place.1 ∙ ap (outer_number n) (place.2 0) ∙ back in
      let there = place-there k (map (outer_number n) inner) place.0 (omega (arith, place.1, count)) here in
      let clash : None ≡ Some there.0 = sym e ∙ there.1 in
      absurd cc

  same_by : (k : ℕ) (o : Option ℕ) → place_of k (map (outer_number n) inner) ≡ o → object_at objects (unwrap_or o no_number) ≡ object_at xs (inner_number n k)
  same_by k (Some p) e = found k p e
  same_by k None e =
      let count = objects-count in
      let room = few in
      object_at-past objects no_number (omega arith) ∙ sym (none_by k (object_at xs (inner_number n k)) refl e)

  same_at : (k : ℕ) → k < outer_number n (length xs) → object_at (seen_objects next objects) k ≡ object_at (seen_objects n xs) k
  same_at k lt =
      let count = next_count in
      seen-given next objects k (omega arith)
      ∙ ap (object_at objects) (inner-before next k lt)
      ∙ same_by k (place_of k (map (outer_number n) inner)) refl
      ∙ sym (seen-given n xs k lt)

  pub seen-next : seen_objects next objects ≡ seen_objects n xs
  seen-next =
      let count = next_count in
      let this = seen-length n xs in
      let that = seen-length next objects in
      same_objects (seen_objects next objects) (seen_objects n xs) (omega arith) (λ k lt. same_at k (omega arith))

module _ (n : NumbersSeen) (s : Store) (matrices : List MatrixId) (vectors : List VectorId) (are : AreNumbersOf n s)
    (ms : HaveAllLive s.matrices (matrix_numbers matrices)) (vs : HaveAllLive s.vectors (vector_numbers vectors)) where
  abbrev by_numbers : Store
  by_numbers = record { matrices = map (object_at s.matrices) (matrix_numbers matrices); vectors = map (object_at s.vectors) (vector_numbers vectors) }

  carried_is : carried_store s matrices vectors ≡ by_numbers
  carried_is = λ i. record { matrices = map-map (object_at s.matrices) (λ (a : MatrixId). a.0) matrices i; vectors = map-map (object_at s.vectors) (λ (v : VectorId). v.0) vectors i }

  next_are_numbers : AreNumbersOf (next_numbers n s matrices vectors) by_numbers
  next_are_numbers = record {
    numbers = record {
      matrices = next_carried-are n.matrices are.numbers.matrices s.matrices are.matrices (matrix_numbers matrices) ms;
      vectors = next_carried-are n.vectors are.numbers.vectors s.vectors are.vectors (vector_numbers vectors) vs;
    };
    matrices = next_numbered n.matrices are.numbers.matrices s.matrices are.matrices (matrix_numbers matrices) ms;
    vectors = next_numbered n.vectors are.numbers.vectors s.vectors are.vectors (vector_numbers vectors) vs;
  }

  next_seen : seen_store (next_numbers n s matrices vectors) by_numbers ≡ seen_store n s
  next_seen = λ i. record {
    matrices = seen-next n.matrices are.numbers.matrices s.matrices are.matrices (matrix_numbers matrices) ms i;
    vectors = seen-next n.vectors are.numbers.vectors s.vectors are.vectors (vector_numbers vectors) vs i;
  }

  pub shows_the_same : ShowTheSame n s matrices vectors
  shows_the_same = record {
    numbers = subst (AreNumbersOf (next_numbers n s matrices vectors)) (sym carried_is) next_are_numbers;
    store = ap (seen_store (next_numbers n s matrices vectors)) carried_is ∙ next_seen;
  }

pub next_numbers_show_the_same : NextNumbersShowTheSame
next_numbers_show_the_same n s matrices vectors are ms vs = shows_the_same n s matrices vectors are ms vs
