-- A whole store is seen whole.
use Rattle.std.proofs.Common.{ℕ, zero, suc, All, List, [], ◌∷◌, map, length, Option, IfSome}
use Rattle.std.specs.List.{AllByRecursion, range_with_len}
use Rattle.std.proofs.lemmas.List.Elements.{All-from_recursion, recursion_from_All}
use Rattle.grb_core.specs.Contents.{IsMatrix, IsVector}
use Rattle.grb_call.specs.Shapes.{object_at}
use Rattle.grb_numbers.specs.Laws.{SeenStoresAreWhole}
use Rattle.grb_numbers.specs.Numbers.{CarriedNumbers, inner_number, outer_number}
use Rattle.grb_numbers.specs.Seen.{seen_objects}

module _ {X : Type 0} (P : X → Type 0) where
  object_at-holds : (xs : List (Option X)) (k : ℕ) → AllByRecursion (λ o. IfSome o P) xs → IfSome (object_at xs k) P
  object_at-holds [] k h = tt
  object_at-holds (x ∷ xs) zero h = h.0
  object_at-holds (x ∷ xs) (suc k) h = object_at-holds xs k h.1

  all_of : (f : ℕ → Option X) (ks : List ℕ) → ((k : ℕ) → IfSome (f k) P) → AllByRecursion (λ o. IfSome o P) (map f ks)
  all_of f [] h = tt
  all_of f (k ∷ ks) h = (h k, all_of f ks h)

  pub seen-holds : (n : CarriedNumbers) (xs : List (Option X)) → All (λ o. IfSome o P) xs → All (λ o. IfSome o P) (seen_objects n xs)
  seen-holds n xs h =
      let each = recursion_from_All (λ (o : Option X). IfSome o P) xs h in
      All-from_recursion (λ (o : Option X). IfSome o P) (seen_objects n xs)
      (all_of (λ k. object_at xs (inner_number n k)) (range_with_len 0 (outer_number n (length xs))) (λ k. object_at-holds xs (inner_number n k) each))

pub seen_stores_are_whole : SeenStoresAreWhole
seen_stores_are_whole n s whole = record { matrices = seen-holds IsMatrix n.matrices s.matrices whole.matrices; vectors = seen-holds IsVector n.vectors s.vectors whole.vectors }
