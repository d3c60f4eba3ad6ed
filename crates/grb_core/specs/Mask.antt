-- believed: Where an operation may write: GraphBLAS C API 2.0, "Masks", and `GrB_STRUCTURE` and `GrB_COMP` of "Descriptors". That
-- the complement of no mask has no place inside is our own, and so is that a mask of either domain fits each output.
use Rattle.std.specs.Prelude.{Bool, true, false, not, ◌||◌, ◌==◌, if◌then◌else◌, List, Option, Some, None}
use Rattle.std.specs.declared.cmp.Ordering.{Ordering}
use Rattle.std.specs.FinMap.{find}
use Rattle.grb_core.specs.declared.value.Value.{Value}
use Rattle.grb_core.specs.declared.value.Value.TheVariants as value

-- the value is true, or is a number other than 0
abbrev pub is_true_value : Value → Bool
is_true_value (value.Bool b) = b
is_true_value (value.Uint64 n) = not (n == 0)

-- what the mask stores at a place selects it: a true value, or with structure any value
abbrev pub selects : Bool → Option Value → Bool
selects structure None = false
selects structure (Some v) = structure || is_true_value v

module _ {K : Type 0} (R : K → K → Ordering) where
  -- the mask selects the place. Where there is no mask, each place is selected
  abbrev pub is_selected : Bool → Option (List (K × Value)) → K → Bool
  is_selected structure None k = true
  is_selected structure (Some mask) k = selects structure (find R k mask)

  -- the place is inside: selected, or with the complement not
  abbrev pub is_inside : Bool → Bool → Option (List (K × Value)) → K → Bool
  is_inside structure comp mask k = if comp then not (is_selected structure mask k) else is_selected structure mask k
