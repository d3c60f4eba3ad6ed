-- inside: no public contract names it. Which refusal ends which step towards a new store (own).
use Rattle.std.specs.Prelude.{◌≡◌, ℕ, length}
use Rattle.grb_call.specs.Store.{Store}
use Rattle.grb_pass.specs.Chosen.{MayHaveRoom, room_beside}
use Rattle.grb_rebuild.specs.Rebuilt.{rebuilt}
use Rattle.grb_rebuild.specs.declared.rebuild.NoSuccessor.{NoSuccessor}
use Rattle.grb_rebuild.specs.declared.rebuild.NoSuccessor.TheVariants as no

-- memory was refused while objects are made
abbrev pub IsForMemory : NoSuccessor → Type 0
IsForMemory no.OutOfMemory = Unit {0}
IsForMemory (no.Unmade o) = Unit {0}
IsForMemory _ = ⊥

-- all objects are made, and there is no room for the calls that make the store and so many more, or memory was refused
abbrev pub IsNotBegun : ℕ → ℕ → Store → NoSuccessor → Type 0
IsNotBegun room passes s (no.RoomTooSmall needed) = (needed ≡ length (rebuilt s)) × (MayHaveRoom (room_beside s room) passes → ⊥)
IsNotBegun room passes s no.OutOfMemory = Unit {0}
IsNotBegun room passes s (no.Unmade o) = ⊥
IsNotBegun room passes s no.Panic = ⊥
