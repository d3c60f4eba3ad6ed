-- The store that a call which is not refused leaves: with one more object, or with its output changed, or as it was.
use Rattle.std.proofs.Common.{◌≡◌, refl, ap, Option, Some, None}
use Rattle.grb_core.specs.Contents.{Matrix, Vector}
use Rattle.grb_call.specs.declared.call.Call.{Call}
use Rattle.grb_call.specs.declared.call.Call.TheVariants as call
use Rattle.grb_call.specs.declared.ids.MatrixId.{MatrixId}
use Rattle.grb_call.specs.declared.ids.VectorId.{VectorId}
use Rattle.grb_call.specs.declared.ids.Object.{Object}
use Rattle.grb_call.specs.declared.ids.Object.TheVariants as object
use Rattle.grb_call.specs.Output.{output_of, matrix_left, vector_left}
use Rattle.grb_call.specs.Store.{Store, matrix_at, vector_at, with_matrix, with_vector, put_matrix, put_vector}
use Rattle.grb_call.specs.After.{changed, output_changed}

-- what holds of the store with one more object, and with the output of the call changed, holds of the store that the call leaves
pub changed_holds : (P : Store → Type 0) (s : Store) (c : Call) → ((m : Option Matrix) → P (with_matrix s m)) → ((x : Option Vector) → P (with_vector s x)) →
    ((q : Option Object) → output_of c ≡ q → P (output_changed s c q)) → P (changed s c)
changed_holds P s (call.NewMatrix domain nrows ncols) matrix vector output = matrix _
changed_holds P s (call.NewVector domain size) matrix vector output = vector _
changed_holds P s (call.DupMatrix a) matrix vector output = matrix _
changed_holds P s (call.DupVector v) matrix vector output = vector _
changed_holds P s (call.Diag v diagonal) matrix vector output = matrix _
changed_holds P s c matrix vector output = output (output_of c) refl

-- the store that a call leaves which changes one object
pub changed_output : (s : Store) (c : Call) (o : Object) → output_of c ≡ Some o → changed s c ≡ output_changed s c (Some o)
changed_output s (call.NewMatrix domain nrows ncols) o is = cc
changed_output s (call.NewVector domain size) o is = cc
changed_output s (call.DupMatrix a) o is = cc
changed_output s (call.DupVector v) o is = cc
changed_output s (call.Diag v diagonal) o is = cc
changed_output s c o is = ap (output_changed s c) is

pub changed_matrix : (s : Store) (a : MatrixId) (c : Call) → output_of c ≡ Some (object.Matrix a) → changed s c ≡ put_matrix s a (matrix_left s c (matrix_at s a))
changed_matrix s a c is = changed_output s c (object.Matrix a) is

pub changed_vector : (s : Store) (v : VectorId) (c : Call) → output_of c ≡ Some (object.Vector v) → changed s c ≡ put_vector s v (vector_left s c (vector_at s v))
changed_vector s v c is = changed_output s c (object.Vector v) is

-- nothing is left of an object that is not there
pub matrix_left-none : (s : Store) (c : Call) → matrix_left s c None ≡ None
matrix_left-none s (call.FreeMatrix a) = refl
matrix_left-none s _ = refl

pub vector_left-none : (s : Store) (c : Call) → vector_left s c None ≡ None
vector_left-none s (call.FreeVector v) = refl
vector_left-none s _ = refl
