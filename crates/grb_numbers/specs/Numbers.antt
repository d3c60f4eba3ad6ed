-- believed: Two numbers of one object (own): the inner number, by which the store of a generation holds it, and the outer one, by which
-- its users name it. Outer numbers are given in the order of the making through all generations, and none is given twice.
use Rattle.std.specs.Prelude.{ℕ, suc, ◌+◌, ◌-◌, ◌<◌, ◌≤◌, ◌==◌, ◌&&◌, Bool, nat_lt, if◌then◌else◌, List, [], ◌∷◌, length, map, slice_index, Option, Some, None}
use Rattle.std.specs.Option.{option_map, unwrap_or}

-- of one sort: the outer numbers of the objects that were carried over, which have the inner numbers 0, 1, 2 .. here, and how many outer
-- numbers were given before
pub record CarriedNumbers : Type 0 where
  pub carried : List ℕ
  pub first : ℕ

-- the same of both sorts
pub record NumbersSeen : Type 0 where
  pub matrices : CarriedNumbers
  pub vectors : CarriedNumbers

-- the number that no object has, inside or outside
abbrev pub no_number : ℕ
no_number = 4294967295

-- where this number stands in a list, counted from 0
abbrev pub place_of : ℕ → List ℕ → Option ℕ
place_of k [] = None
place_of k (c ∷ cs) = if k == c then Some 0 else option_map suc (place_of k cs)

-- the inner number of an outer one: the place of one that was given before, and none where its object was not carried over; of one that
-- is given here as many more as were given before it here
abbrev pub inner_number : CarriedNumbers → ℕ → ℕ
inner_number n k = if nat_lt k n.first then unwrap_or (place_of k n.carried) no_number else length n.carried + (k - n.first)

-- the outer number of an inner one
abbrev pub outer_number : CarriedNumbers → ℕ → ℕ
outer_number n k = if nat_lt k (length n.carried) then slice_index n.carried k else n.first + (k - length n.carried)

-- the outer numbers that were carried over rise, and were given before
pub record AreCarried (n : CarriedNumbers) : Type 0 where
  pub rising : (i j : ℕ) → i < j → j < length n.carried → slice_index n.carried i < slice_index n.carried j
  pub before : (i : ℕ) → i < length n.carried → slice_index n.carried i < n.first

pub record AreNumbers (n : NumbersSeen) : Type 0 where
  pub matrices : AreCarried n.matrices
  pub vectors : AreCarried n.vectors

-- no number is carried or was given
abbrev pub nothing_carried : CarriedNumbers
nothing_carried = record { carried = []; first = 0 }

abbrev pub first_numbers : NumbersSeen
first_numbers = record { matrices = nothing_carried; vectors = nothing_carried }

-- the numbers of the generation after this one, to which the objects of these inner numbers are carried over, when so many were made here
abbrev pub next_carried : CarriedNumbers → List ℕ → ℕ → CarriedNumbers
next_carried n inner made = record { carried = map (outer_number n) inner; first = outer_number n made }

-- so many objects of one sort have numbers: those that were carried over are among them, and each outer number is below the last
pub record AreNumbered (n : CarriedNumbers) (made : ℕ) : Type 0 where
  pub carried : length n.carried ≤ made
  pub room : outer_number n made < no_number

-- inner numbers that rise, of objects that were made
pub record AreChosen (inner : List ℕ) (made : ℕ) : Type 0 where
  pub rising : (i j : ℕ) → i < j → j < length inner → slice_index inner i < slice_index inner j
  pub below : (i : ℕ) → i < length inner → slice_index inner i < made

-- after so many matrices and vectors each of so many calls more may make an object, and no outer number comes to the last
abbrev pub has_room : NumbersSeen → ℕ → ℕ → ℕ → Bool
has_room n matrices vectors calls = nat_lt (outer_number n.matrices matrices + calls) no_number && nat_lt (outer_number n.vectors vectors + calls) no_number
