-- inside: no public contract names it. The slice that a walk back over calls finds, for what is wanted after them (own).
use Rattle.std.specs.Prelude.{◌≡◌, ◌≤◌, List, length, Option}
use Rattle.grb_call.specs.declared.call.Call.{Call}
use Rattle.grb_call.specs.declared.ids.Object.{Object}
use Rattle.grb_replay.specs.declared.slice.Slice.{Slice}
use Rattle.grb_slices.specs.Slice.{Wants, choices, entries, sliced}

-- the slice is that of these calls, with these targets, for what is wanted after them
pub record IsSliceFor (slice : Slice) (w : Wants) (targets : List (Option Object)) (cs : List Call) : Type 0 where
  pub size : length slice.chosen.items ≡ length cs
  pub chosen : slice.chosen.items ≡ choices w (entries targets cs)
  pub count : slice.count ≡ length (sliced w (entries targets cs)).elements
  pub few : slice.count ≤ length cs
