-- inside: no public contract names it. The objects that are wanted: for each sort a mark by number, and none of a number of which there is
-- no place (own).
use Rattle.std.specs.Prelude.{ℕ, ◌<◌, ◌≤◌, Bool, false, if◌then◌else◌, List, length, Option, Some, None, slice_get}
use Rattle.std.specs.List.{AllByRecursion}
use Rattle.std.specs.Option.{option_map_or}
use Rattle.grb_call.specs.declared.call.Call.{Call}
use Rattle.grb_call.specs.declared.ids.Object.{Object}
use Rattle.grb_call.specs.declared.ids.Object.TheVariants as object
use Rattle.grb_slices.specs.Slice.{Wants, Make, wants_before}

pub record Marks : Type 0 where
  pub matrices : List Bool
  pub vectors : List Bool

-- the mark with this number
abbrev pub marked : List Bool → ℕ → Bool
marked marks n = option_map_or (λ mark. mark) (slice_get marks n) false

abbrev pub is_wanted : Marks → Wants
is_wanted m (object.Matrix a) = marked m.matrices a.0
is_wanted m (object.Vector v) = marked m.vectors v.0

-- there is a place for the mark of the object
abbrev pub HasPlace : Marks → Object → Type 0
HasPlace m (object.Matrix a) = a.0 < length m.matrices
HasPlace m (object.Vector v) = v.0 < length m.vectors

-- there is a place for the mark of each
abbrev pub HavePlaces : Marks → List Object → Type 0
HavePlaces m os = AllByRecursion (HasPlace m) os

-- no place was lost
pub record KeepsPlaces (old new : Marks) : Type 0 where
  pub matrices : length old.matrices ≤ length new.matrices
  pub vectors : length old.vectors ≤ length new.vectors

-- whether an entry with this target belongs to a slice for what is wanted after it
abbrev pub is_chosen : Wants → Option Object → Bool
is_chosen w t = option_map_or w t false

-- what is wanted before the entry
abbrev pub wants_before_entry : Wants → Option Object → Call → Wants
wants_before_entry w None c = w
wants_before_entry w (Some o) c = if w o then wants_before w o (Make c) else w
