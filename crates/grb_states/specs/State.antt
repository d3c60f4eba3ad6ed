-- believed: What a contract sees of an evaluated store, and what ties its parts (own).
use Rattle.std.specs.Prelude.{◌≡◌, ℕ, ◌+◌, ◌≤◌, Bool, true, List, length, Option}
use Rattle.std.specs.Option.{option_map_or}
use Rattle.grb_core.specs.Entries.{nvals_of}
use Rattle.grb_sparse.specs.Matrix.{SparseMatrixView}
use Rattle.grb_sparse.specs.Vector.{SparseVectorView}
use Rattle.grb_call.specs.declared.ids.Object.{Object}
use Rattle.grb_call.specs.declared.ids.Object.TheVariants as object
use Rattle.grb_call.specs.Shapes.{RoomyShapes, object_at}
use Rattle.grb_call.specs.Store.{Store, matrix_entries, shapes_of, vector_entries}
use Rattle.grb_states.specs.Settled.{AreAllAssembled}

-- a store, how many more calls there is room for, and its objects with what waits in each
pub record RoomyStore : Type 0 where
  pub store : Store
  pub room : ℕ
  pub matrices : List (Option SparseMatrixView)
  pub vectors : List (Option SparseVectorView)

-- no change waits in the object, if it is there
abbrev pub is_assembled : List (Option SparseMatrixView) → List (Option SparseVectorView) → Object → Bool
is_assembled matrices vectors (object.Matrix a) = option_map_or (λ m. m.assembled) (object_at matrices a.0) true
is_assembled matrices vectors (object.Vector v) = option_map_or (λ x. x.assembled) (object_at vectors v.0) true

-- no change waits in the object of this state, if it is there
abbrev pub is_assembled_in : RoomyStore → Object → Bool
is_assembled_in s o = is_assembled s.matrices s.vectors o

-- nor in any object of it
abbrev pub AreAllAssembledIn : RoomyStore → Type 0
AreAllAssembledIn s = AreAllAssembled (is_assembled s.matrices s.vectors)

-- each call to come may make one more object of the sort without memory for its place
abbrev pub IsReserved : {X : Type 0} → List X → ℕ → ℕ → Type 0
IsReserved objects room capacity = length objects + room ≤ capacity

-- the shapes are those of the objects, and there is a place for each object to come
pub record IsState (shapes : RoomyShapes) (store : Store) (matrix_capacity vector_capacity : ℕ) : Type 0 where
  pub shapes_are : shapes.objects ≡ shapes_of store
  pub matrices : IsReserved store.matrices shapes.room matrix_capacity
  pub vectors : IsReserved store.vectors shapes.room vector_capacity

-- how many entries the object stores
abbrev pub count_in : Store → Object → ℕ
count_in s (object.Matrix a) = nvals_of (matrix_entries s a)
count_in s (object.Vector v) = nvals_of (vector_entries s v)
