-- believed: The store of some objects of another one, and the history in which they stand (own): those of the first list are its matrices
-- and those of the second its vectors, in their order, and what is not there is not there.
use Rattle.std.specs.Prelude.{◌≡◌, ◌≤◌, ◌+◌, ◌*◌, ℕ, true, List, length, map, Contains}
use Rattle.grb_order.specs.declared.limits.TheConstants.{MOST_PLACES, MOST_WORDS}
use Rattle.grb_call.specs.declared.ids.MatrixId.{MatrixId}
use Rattle.grb_call.specs.declared.ids.Object.{Object}
use Rattle.grb_call.specs.declared.ids.Object.TheVariants as object
use Rattle.grb_call.specs.declared.ids.VectorId.{VectorId}
use Rattle.grb_call.specs.Shapes.{is_live}
use Rattle.grb_call.specs.Store.{Store, matrix_at, shapes_of, vector_at}
use Rattle.grb_rebuild.specs.Rebuilt.{rebuilt}
use Rattle.grb_rebuild.specs.declared.rebuild.NoSuccessor.{NoSuccessor}
use Rattle.grb_rebuild.specs.declared.rebuild.NoSuccessor.TheVariants as no

abbrev pub chosen_store : Store → List MatrixId → List VectorId → Store
chosen_store s matrices vectors = record { matrices = map (matrix_at s) matrices; vectors = map (vector_at s) vectors }

-- the room of a history that begins with the calls which make this store, and takes so many more
abbrev pub room_beside : Store → ℕ → ℕ
room_beside s room = length (rebuilt s) + room

-- a history that so many passes share may have this room
pub record MayHaveRoom (room passes : ℕ) : Type 0 where
  pub room_is : room ≤ MOST_WORDS
  pub places : room * passes ≤ MOST_PLACES

-- Why there is no new store with these objects and so much room beside the calls that make it: this many calls make it, and no history has
-- room for all; or memory, or a record, is refused
abbrev pub IsNoSuccessor : ℕ → ℕ → Store → NoSuccessor → Type 0
IsNoSuccessor room passes s (no.RoomTooSmall needed) = (needed ≡ length (rebuilt s)) × (MayHaveRoom (room_beside s room) passes → ⊥)
IsNoSuccessor room passes s no.OutOfMemory = Unit {0}
IsNoSuccessor room passes s (no.Unmade o) = Unit {0}
IsNoSuccessor room passes s no.Panic = Unit {0}

-- an object to which memory was refused is there in this store
abbrev pub NamesLive : Store → NoSuccessor → Type 0
NamesLive s (no.Unmade o) = is_live (shapes_of s) o ≡ true
NamesLive s _ = Unit {0}

-- and is one of those that were chosen
abbrev pub NamesChosen : Store → List MatrixId → List VectorId → NoSuccessor → Type 0
NamesChosen s matrices vectors (no.Unmade (object.Matrix a)) = Contains matrices a × (is_live (shapes_of s) (object.Matrix a) ≡ true)
NamesChosen s matrices vectors (no.Unmade (object.Vector v)) = Contains vectors v × (is_live (shapes_of s) (object.Vector v) ≡ true)
NamesChosen s matrices vectors _ = Unit {0}
