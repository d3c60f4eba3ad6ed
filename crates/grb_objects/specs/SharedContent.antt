-- believed: What one object holds, next to a store (own).
use Rattle.std.specs.Prelude.{◌≡◌, ◌≢◌, ℕ, Bool, true, false, Option, Some, None}
use Rattle.grb_core.specs.Entries.{nvals_of}
use Rattle.grb_sparse.specs.Matrix.{SparseMatrixView}
use Rattle.grb_sparse.specs.Vector.{SparseVectorView}
use Rattle.grb_call.specs.declared.call.Call.{Call}
use Rattle.grb_call.specs.declared.call.Call.TheVariants as call
use Rattle.grb_call.specs.declared.ids.MatrixId.{MatrixId}
use Rattle.grb_call.specs.declared.ids.VectorId.{VectorId}
use Rattle.grb_call.specs.declared.ids.Object.{Object}
use Rattle.grb_call.specs.declared.ids.Object.TheVariants as object
use Rattle.grb_call.specs.After.{refused}
use Rattle.grb_call.specs.Kinds.{enters, is_size}
use Rattle.grb_call.specs.Output.{output_of}
use Rattle.grb_call.specs.Status.{object_of}
use Rattle.grb_call.specs.Store.{Store, matrix_at, vector_at}
use Rattle.grb_objects.specs.declared.shared_content.SharedContent.{SharedContent}
use Rattle.grb_objects.specs.declared.shared_content.SharedContent.TheVariants as shared

-- the matrix or the vector that it is
abbrev pub matrix_in : SharedContent → Option SparseMatrixView
matrix_in (shared.Matrix m) = Some m
matrix_in (shared.Vector x) = None

abbrev pub vector_in : SharedContent → Option SparseVectorView
vector_in (shared.Matrix m) = None
vector_in (shared.Vector x) = Some x

-- no change waits in it
abbrev pub is_assembled_content : SharedContent → Bool
is_assembled_content (shared.Matrix m) = m.assembled
is_assembled_content (shared.Vector x) = x.assembled

-- how many entries it stores
abbrev pub count_of : SharedContent → ℕ
count_of (shared.Matrix m) = nvals_of m.matrix.entries
count_of (shared.Vector x) = nvals_of x.vector.entries

-- both hold the same entries, whatever waits in them
abbrev pub HoldSame : SharedContent → SharedContent → Type 0
HoldSame (shared.Matrix m) (shared.Matrix n) = m.matrix ≡ n.matrix
HoldSame (shared.Vector x) (shared.Vector y) = x.vector ≡ y.vector
HoldSame _ _ = ⊥

-- the object of the store holds this
abbrev pub IsAt : Store → Object → SharedContent → Type 0
IsAt s (object.Matrix a) (shared.Matrix m) = matrix_at s a ≡ Some m.matrix
IsAt s (object.Vector v) (shared.Vector x) = vector_at s v ≡ Some x.vector
IsAt s _ _ = ⊥

-- what the object of the store holds, where it is there
abbrev pub IsThere : Store → Object → Option SharedContent → Type 0
IsThere s o (Some x) = IsAt s o x
IsThere s (object.Matrix a) None = matrix_at s a ≡ None
IsThere s (object.Vector v) None = vector_at s v ≡ None

-- each object but this one is as it was
abbrev pub AreElse : Store → Store → Object → Type 0
AreElse s t o = ((a : MatrixId) → o ≢ object.Matrix a → matrix_at t a ≡ matrix_at s a) × ((v : VectorId) → o ≢ object.Vector v → vector_at t v ≡ vector_at s v)

-- whether the call ends the object that it changes
abbrev pub is_free : Call → Bool
is_free (call.FreeMatrix a) = true
is_free (call.FreeVector v) = true
is_free _ = false

-- some store has this as the output of the call, and does not refuse the call
pub record MayEdit (c : Call) (x : SharedContent) : Type 0 where
  pub store : Store
  pub output : Object
  pub is_output : output_of c ≡ Some output
  pub held : IsAt store output x
  pub accepted : refused store c ≡ None

-- some store has this as the object that the call reads, not only its dimensions, and does not refuse the call
pub record MayRead (c : Call) (x : SharedContent) : Type 0 where
  pub store : Store
  pub object : Object
  pub about : object_of c ≡ Some object
  pub held : IsAt store object x
  pub reads : enters c ≡ false
  pub no_size : is_size c ≡ false
  pub accepted : refused store c ≡ None
