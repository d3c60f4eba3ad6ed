-- believed: What a store to go on with is made of (own): the calls that make it anew, and the store itself, with no change left that waits.
use Rattle.std.specs.Prelude.{◌≡◌, ◌<◌, ◌+◌, ℕ, List, length}
use Rattle.grb_call.specs.declared.call.Call.{Call}
use Rattle.grb_call.specs.Store.{Store, IsStore}
use Rattle.grb_states.specs.Settled.{AreAllAssembled}
use Rattle.grb_states.specs.State.{RoomyStore, is_assembled}
use Rattle.grb_rebuild.specs.Rebuilt.{rebuilt}
use Rattle.grb_rebuild.specs.declared.rebuild.NoSuccessor.{NoSuccessor}
use Rattle.grb_rebuild.specs.declared.rebuild.NoSuccessor.TheVariants as no

-- these calls make this store anew, and it has room for as many more as make up `room`
pub record IsRebuild (room : ℕ) (calls : List Call) (state : RoomyStore) : Type 0 where
  pub calls_are : calls ≡ rebuilt state.store
  pub whole : IsStore state.store
  pub assembled : AreAllAssembled (is_assembled state.matrices state.vectors)
  pub room_is : state.room + length calls ≡ room

-- Why a store is not made anew with so much room: it is too small, and this many calls are needed; or memory is refused
abbrev pub IsNotRebuilt : ℕ → Store → NoSuccessor → Type 0
IsNotRebuilt room s (no.RoomTooSmall needed) = (needed ≡ length (rebuilt s)) × (room < needed)
IsNotRebuilt room s no.OutOfMemory = Unit {0}
IsNotRebuilt room s (no.Unmade o) = ⊥
IsNotRebuilt room s no.Panic = ⊥
