-- believed: What a contract sees of a walk over calls by their shapes (own): the targets of the calls walked over, and the shapes
-- after them.
use Rattle.std.specs.Prelude.{◌≡◌, ◌≤◌, List, [], ◌∷◌, drop, length, take, Option}
use Rattle.grb_call.specs.declared.call.Call.{Call}
use Rattle.grb_call.specs.declared.ids.Object.{Object}
use Rattle.grb_call.specs.Refused.{shapes_after}
use Rattle.grb_call.specs.Shapes.{ObjectShapes, RoomyShapes}
use Rattle.grb_call.specs.Store.{Store, shapes_of}
use Rattle.grb_call.specs.History.{after_all}
use Rattle.grb_slices.specs.Content.{effective_target}

-- the targets of the calls, each at its place, by one walk over shapes
abbrev pub targets_of : ObjectShapes → List Call → List (Option Object)
targets_of s [] = []
targets_of s (c ∷ cs) = effective_target s c ∷ targets_of (shapes_after s c) cs

pub record WalkedCalls : Type 0 where
  pub targets : List (Option Object)
  pub shapes : RoomyShapes

-- the targets are those of the first of these calls on a store, and the shapes those after them
pub record AreTargetsOf (s : Store) (t : WalkedCalls) (cs : List Call) : Type 0 where
  pub within : length t.targets ≤ length cs
  pub targets_are : t.targets ≡ targets_of (shapes_of s) (take (length t.targets) cs)
  pub shapes_are : t.shapes.objects ≡ shapes_of (after_all s (take (length t.targets) cs))

-- a walk goes on over calls: where it had walked over the calls before them, it has now walked over these too
abbrev pub WalksOn : WalkedCalls → List Call → WalkedCalls → Type 0
WalksOn old calls new = (s : Store) (known : List Call) → AreTargetsOf s old known → calls ≡ drop (length old.targets) known → AreTargetsOf s new known × (length new.targets ≡ length known)
