-- believed: A store as it is seen from outside (own): at each outer number that was given stands the object of its inner number, and
-- nothing where it has none.
use Rattle.std.specs.Prelude.{List, length, map, Option}
use Rattle.std.specs.List.{range_with_len}
use Rattle.grb_call.specs.Shapes.{object_at}
use Rattle.grb_call.specs.Store.{Store}
use Rattle.grb_numbers.specs.Numbers.{CarriedNumbers, NumbersSeen, AreNumbers, AreNumbered, inner_number, outer_number}

abbrev pub seen_objects : {X : Type 0} → CarriedNumbers → List (Option X) → List (Option X)
seen_objects n xs = map (λ k. object_at xs (inner_number n k)) (range_with_len 0 (outer_number n (length xs)))

abbrev pub seen_store : NumbersSeen → Store → Store
seen_store n s = record { matrices = seen_objects n.matrices s.matrices; vectors = seen_objects n.vectors s.vectors }

-- these are numbers for the objects of the store, and the outer ones do not end with the next call
pub record AreNumbersOf (n : NumbersSeen) (s : Store) : Type 0 where
  pub numbers : AreNumbers n
  pub matrices : AreNumbered n.matrices (length s.matrices)
  pub vectors : AreNumbered n.vectors (length s.vectors)
