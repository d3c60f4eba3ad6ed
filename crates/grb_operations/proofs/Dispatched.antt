-- What an operation leaves of its output, by the call that it is.
use Rattle.std.proofs.Common.{◌≡◌, false, true, List, ◌++◌, sym, ap, subst, ◌∙◌, Option, Some, None, is_some}
use Rattle.std.specs.List.{list_all}
use Rattle.std.proofs.lemmas.Bool.{and_parts}
use Rattle.grb_core.specs.Contents.{Matrix, Vector}
use Rattle.grb_sparse.specs.Matrix.{SparseMatrixView}
use Rattle.grb_sparse.specs.Vector.{SparseVectorView}
use Rattle.grb_call.specs.declared.call.Call.{Call}
use Rattle.grb_call.specs.declared.call.Call.TheVariants as call
use Rattle.grb_call.specs.declared.class.Class.TheVariants.{Edits, Operates}
use Rattle.grb_call.specs.declared.ids.MatrixId.{MatrixId}
use Rattle.grb_call.specs.declared.ids.VectorId.{VectorId}
use Rattle.grb_call.specs.declared.ids.Object.{Object}
use Rattle.grb_call.specs.declared.ids.Object.TheVariants as object
use Rattle.grb_call.specs.Kinds.{class_of, enters}
use Rattle.grb_call.specs.Operands.{masks}
use Rattle.grb_call.specs.Output.{output_of, matrix_left, vector_left}
use Rattle.grb_call.specs.Shapes.{is_live, object_at}
use Rattle.grb_call.specs.Store.{Store, shapes_of, matrix_at, vector_at, matrix_shape, vector_shape}
use Rattle.grb_call.specs.After.{changed, refused}
use Rattle.grb_call.proofs.Outputs.{output-first}
use Rattle.grb_call.proofs.Passed.{has_passed}
use Rattle.grb_states.specs.Operation.{AreAssembled}
use Rattle.grb_objects.specs.Stored.{stored, stored_matrix, stored_vector}
use Rattle.grb_operations.proofs.Lent.{held}

-- a call that reads changes nothing
pub changed_reads : (s : Store) (c : Call) → enters c ≡ false → changed s c ≡ s
changed_reads s (call.NewMatrix domain nrows ncols) reads = cc
changed_reads s _ reads = cc

-- a call that edits has an output
pub edits_output : (c : Call) → class_of c ≡ Edits → is_some (output_of c) ≡ true
edits_output (call.NewMatrix domain nrows ncols) edits = cc
edits_output _ edits = cc

-- and so has an operation
pub operates_output : (c : Call) → class_of c ≡ Operates → is_some (output_of c) ≡ true
operates_output (call.NewMatrix domain nrows ncols) operates = cc
operates_output _ operates = cc

-- a call is this one, of which the same is known
pub record IsCall (ms : List (Option SparseMatrixView)) (vs : List (Option SparseVectorView)) (called other : Call) : Type 0 where
  pub is : called ≡ other
  pub accepted : refused (stored ms vs) other ≡ None
  pub assembled : AreAssembled ms vs other

module _ (ms : List (Option SparseMatrixView)) (vs : List (Option SparseVectorView)) where
  module _ (called : Call) (accepted : refused (stored ms vs) called ≡ None) (assembled : AreAssembled ms vs called) where
    pub is_call : (other : Call) → called ≡ other → IsCall ms vs called other
    is_call other e = record { is = e; accepted = subst (λ (x : Call). refused (stored ms vs) x ≡ None) e accepted; assembled = subst (λ (x : Call). AreAssembled ms vs x) e assembled }

    -- the call with this output
    pub matrix_call : (make : MatrixId → Call) (c out : MatrixId) → called ≡ make c → output_of (make c) ≡ Some (object.Matrix c) → output_of called ≡ Some (object.Matrix out) → IsCall ms vs called (make out)
    matrix_call make c out e made output =
        let same_output : ◌≡◌ {A = Option Object} (Some (object.Matrix c)) (Some (object.Matrix out)) = sym made ∙ sym (ap output_of e) ∙ output in
        let same : c ≡ out = cc in
        is_call (make out) (e ∙ ap make same)

    pub vector_call : (make : VectorId → Call) (w out : VectorId) → called ≡ make w → output_of (make w) ≡ Some (object.Vector w) → output_of called ≡ Some (object.Vector out) → IsCall ms vs called (make out)
    vector_call make w out e made output =
        let same_output : ◌≡◌ {A = Option Object} (Some (object.Vector w)) (Some (object.Vector out)) = sym made ∙ sym (ap output_of e) ∙ output in
        let same : w ≡ out = cc in
        is_call (make out) (e ∙ ap make same)

  -- the output of a call that is not refused is live
  output_live : (called : Call) (o : Object) → output_of called ≡ Some o → refused (stored ms vs) called ≡ None → is_live (shapes_of (stored ms vs)) o ≡ true
  output_live called o output accepted =
      let first = output-first called o output in
      (and_parts _ _ (subst (λ (os : List Object). list_all (is_live (shapes_of (stored ms vs))) (os ++ masks called) ≡ true) first.1 (has_passed (stored ms vs) called accepted).initialized)).0

  -- the output of an operation is there
  pub held_output_matrix : (out : MatrixId) (called : Call) → class_of called ≡ Operates → output_of called ≡ Some (object.Matrix out) → refused (stored ms vs) called ≡ None → is_some (object_at ms out.0) ≡ true
  held_output_matrix out called operation output accepted = held stored_matrix matrix_shape ms out.0 (output_live called (object.Matrix out) output accepted)

  pub held_output_vector : (out : VectorId) (called : Call) → class_of called ≡ Operates → output_of called ≡ Some (object.Vector out) → refused (stored ms vs) called ≡ None → is_some (object_at vs out.0) ≡ true
  held_output_vector out called operation output accepted = held stored_vector vector_shape vs out.0 (output_live called (object.Vector out) output accepted)

-- what the one leaves of its output, the other does
module _ (s : Store) (called other : Call) (e : called ≡ other) where
  pub matrix_left_as : (c : MatrixId) (m : Option Matrix) → matrix_left s other (matrix_at s c) ≡ m → matrix_left s called (matrix_at s c) ≡ m
  matrix_left_as c m h = ap (λ (x : Call). matrix_left s x (matrix_at s c)) e ∙ h

  pub vector_left_as : (w : VectorId) (x : Option Vector) → vector_left s other (vector_at s w) ≡ x → vector_left s called (vector_at s w) ≡ x
  vector_left_as w x h = ap (λ (c : Call). vector_left s c (vector_at s w)) e ∙ h
