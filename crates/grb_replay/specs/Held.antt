-- believed: What a contract sees of an object that was evaluated (own): which it is, the state that it was had from, and how many
-- calls were made for it.
use Rattle.std.specs.Prelude.{◌≡◌, ℕ, true, false, if◌then◌else◌, List, length, Option, None}
use Rattle.grb_core.specs.Contents.{Matrix, Vector}
use Rattle.grb_call.specs.declared.call.Call.{Call}
use Rattle.grb_call.specs.declared.ids.Object.{Object}
use Rattle.grb_call.specs.declared.ids.Object.TheVariants as object
use Rattle.grb_call.specs.Shapes.{is_live}
use Rattle.grb_call.specs.Status.{is_same_object}
use Rattle.grb_call.specs.Store.{Store, empty_store, matrix_at, shapes_of, vector_at}
use Rattle.grb_call.specs.History.{after_all}
use Rattle.grb_states.specs.State.{RoomyStore}
use Rattle.grb_slices.specs.Content.{Contents, content_at}
use Rattle.grb_slices.specs.Slice.{Element, evaluated, sliced}
use Rattle.grb_slices.specs.Steps.{steps_of}

pub record HeldObject : Type 0 where
  pub object : Object
  pub state : RoomyStore
  pub evaluated : ℕ

-- the slice of the object, of calls on a store
abbrev pub slice_of : Store → Object → List Call → List Element
slice_of s o cs = (sliced (is_same_object o) (steps_of (shapes_of s) cs)).elements

-- how many calls the slice of the object has, after calls on a store; none where the object is not there after them
abbrev pub slice_length : Store → Object → List Call → ℕ
slice_length s o cs = if is_live (shapes_of (after_all s cs)) o then length (slice_of s o cs) else 0

-- each object holds what the elements of a slice, and nothing else, make of what the objects held before
abbrev pub HoldsSlice : Contents → List Element → Store → Type 0
HoldsSlice before elements part = (o : Object) → content_at part o ≡ evaluated before elements o

-- after calls on a store the object holds what it holds in the part
abbrev pub HoldsSame : Store → Object → List Call → Store → Type 0
HoldsSame s o cs part = content_at (after_all s cs) o ≡ content_at part o

-- where the object is there after the calls, the part is what its slice alone makes of the store
abbrev pub IsMadeBySlice : Store → Object → List Call → Store → Type 0
IsMadeBySlice s o cs part = is_live (shapes_of (after_all s cs)) o ≡ true → HoldsSlice (content_at s) (slice_of s o cs) part

-- where the object is not there after the calls, the part is empty
abbrev pub IsEmptyWhereGone : Store → Object → List Call → Store → Type 0
IsEmptyWhereGone s o cs part = is_live (shapes_of (after_all s cs)) o ≡ false → part ≡ empty_store

-- what the store has of an object that is a matrix
abbrev pub held_matrix : Store → Object → Option Matrix
held_matrix s (object.Matrix a) = matrix_at s a
held_matrix s (object.Vector v) = None

-- what it has of one that is a vector
abbrev pub held_vector : Store → Object → Option Vector
held_vector s (object.Matrix a) = None
held_vector s (object.Vector v) = vector_at s v
