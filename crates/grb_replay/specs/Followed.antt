-- inside: no public contract names it. A store that holds of another what is wanted, and has a place for each object that the other
-- has: what evaluating a slice in place of all calls leaves (own).
use Rattle.std.specs.Prelude.{◌≡◌, ◌<◌, ◌≤◌, List, length, Bool, true, false, Option, Some, None}
use Rattle.std.specs.Option.{option_map_or}
use Rattle.grb_call.specs.declared.call.Call.{Call}
use Rattle.grb_call.specs.declared.ids.Object.{Object}
use Rattle.grb_call.specs.declared.ids.Object.TheVariants as object
use Rattle.grb_call.specs.Output.{output_of}
use Rattle.grb_call.specs.Store.{Store, shapes_of, with_place}
use Rattle.grb_call.specs.After.{after}
use Rattle.grb_call.specs.History.{after_all}
use Rattle.grb_replay.specs.Held.{HoldsSlice}
use Rattle.grb_slices.specs.Content.{content_at}
use Rattle.grb_slices.specs.Slice.{Wants, choices, entries, sliced}
use Rattle.grb_slices.specs.Steps.{AgreeOn}
use Rattle.grb_replay.specs.Targets.{targets_of}

pub record Follows (w : Wants) (whole part : Store) : Type 0 where
  pub matrices : length part.matrices ≡ length whole.matrices
  pub vectors : length part.vectors ≡ length whole.vectors
  pub agree : AgreeOn w (content_at whole) (content_at part)

-- a store has a place for the object, whether or not it was freed
abbrev pub HasPlaceIn : Store → Object → Type 0
HasPlaceIn s (object.Matrix a) = a.0 < length s.matrices
HasPlaceIn s (object.Vector v) = v.0 < length s.vectors

-- it has none yet
abbrev pub LacksPlaceIn : Store → Object → Type 0
LacksPlaceIn s (object.Matrix a) = length s.matrices ≤ a.0
LacksPlaceIn s (object.Vector v) = length s.vectors ≤ v.0

-- what becomes of the part at one entry: a chosen call is made; of one that is not, the object that it would make gets a place
abbrev pub part_after : Bool → Option Object → Call → Store → Store
part_after true t c s = after s c
part_after false None c s = s
part_after false (Some o) c s = option_map_or (λ _. s) (output_of c) (with_place s o)

-- these are the targets of the calls that come on the whole store, and the choices of their slice; and the part holds what is wanted
-- before them
pub record GoesOn (w : Wants) (whole : Store) (calls : List Call) (targets : List (Option Object)) (chosen : List Bool) (part : Store) : Type 0 where
  pub targets_are : targets ≡ targets_of (shapes_of whole) calls
  pub chosen_are : chosen ≡ choices w (entries targets calls)
  pub follows : Follows (sliced w (entries targets calls)).wanted whole part

-- these calls with these targets, which come on the whole store, were gone over on a part: it holds what is wanted after them, and it was
-- changed by the calls of their slice alone
pub record HasGoneOver (w : Wants) (whole : Store) (calls : List Call) (targets : List (Option Object)) (old new : Store) : Type 0 where
  pub follows : Follows w (after_all whole calls) new
  pub slice : HoldsSlice (content_at old) (sliced w (entries targets calls)).elements new
