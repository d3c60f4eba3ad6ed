-- believed: What each call that is an operation leaves of its output, call by call: laws of the one definition for all operations
-- (GraphBLAS C API 2.0, "Operations").
use Rattle.std.specs.Prelude.{◌≡◌, not, Option, Some}
use Rattle.std.specs.Option.{option_map}
use Rattle.std.specs.Ordering.{nat_cmp}
use Rattle.grb_core.specs.declared.monoid.Monoid.{Monoid}
use Rattle.grb_core.specs.declared.operator.BinaryOp.{BinaryOp}
use Rattle.grb_core.specs.Contents.{Matrix, Vector}
use Rattle.grb_core.specs.Entries.{cell_cmp}
use Rattle.grb_core.specs.Results.{ewise_add, ewise_mult, mxv_of, mxm_of, reduce_rows_of, turned, vxm_of}
use Rattle.grb_core.specs.Semiring.{SemiringParts}
use Rattle.grb_core.specs.declared.functions.Function.{Function}
use Rattle.grb_core.specs.declared.tests.Test.{Test}
use Rattle.grb_core.specs.Functions.{turns_input}
use Rattle.grb_core.specs.Maps.{applied, selected_cells, selected_indices}
use Rattle.grb_call.specs.declared.call.Call.{Call}
use Rattle.grb_call.specs.declared.call.Call.TheVariants as call
use Rattle.grb_core.specs.declared.descriptor.Descriptor.{Descriptor}
use Rattle.grb_call.specs.declared.ids.MatrixId.{MatrixId}
use Rattle.grb_call.specs.declared.ids.VectorId.{VectorId}
use Rattle.grb_call.specs.declared.ids.Object.TheVariants as object
use Rattle.grb_call.specs.declared.term.MatrixTerm.TheVariants as matrix_term
use Rattle.grb_call.specs.declared.term.VectorTerm.TheVariants as vector_term
use Rattle.grb_call.specs.Output.{StoredObjects, entries_of_matrix, entries_of_vector, kronecker_computed, output_of, matrix_made, vector_made}
use Rattle.grb_core.specs.Written.{written_matrix, written_vector}

-- what each operation leaves of a matrix into which it writes with this mask, accumulator and descriptor
pub record WritesMatrix (r : StoredObjects) (m : Matrix) (c : MatrixId) (mask : Option MatrixId) (accum : Option BinaryOp) (d : Descriptor) : Type 0 where
  pub of_ewise_add : (op : BinaryOp) (a b : MatrixId) → matrix_made r (call.EwiseAddMatrix c mask accum op a b d) m
      ≡ written_matrix (option_map (entries_of_matrix r) mask) accum d (ewise_add cell_cmp op (turned d.tran (entries_of_matrix r a)) (turned d.tran1 (entries_of_matrix r b))) m
  pub of_ewise_mult : (op : BinaryOp) (a b : MatrixId) → matrix_made r (call.EwiseMultMatrix c mask accum op a b d) m
      ≡ written_matrix (option_map (entries_of_matrix r) mask) accum d (ewise_mult cell_cmp op (turned d.tran (entries_of_matrix r a)) (turned d.tran1 (entries_of_matrix r b))) m
  pub of_mxm : (semiring : SemiringParts) (a b : MatrixId) → matrix_made r (call.Mxm c mask accum semiring a b d) m
      ≡ written_matrix (option_map (entries_of_matrix r) mask) accum d (mxm_of semiring (turned d.tran (entries_of_matrix r a)) (turned d.tran1 (entries_of_matrix r b))) m
  pub of_transpose : (a : MatrixId) → matrix_made r (call.WriteMatrix c mask accum (matrix_term.Transposed a) d) m
      ≡ written_matrix (option_map (entries_of_matrix r) mask) accum d (turned (not d.tran) (entries_of_matrix r a)) m
  pub of_apply : (f : Function) (a : MatrixId) → matrix_made r (call.WriteMatrix c mask accum (matrix_term.Applied f a) d) m
      ≡ written_matrix (option_map (entries_of_matrix r) mask) accum d (applied f (turned (turns_input f d.tran d.tran1) (entries_of_matrix r a))) m
  pub of_select : (t : Test) (a : MatrixId) → matrix_made r (call.WriteMatrix c mask accum (matrix_term.Selected t a) d) m
      ≡ written_matrix (option_map (entries_of_matrix r) mask) accum d (selected_cells t (turned d.tran (entries_of_matrix r a))) m
  pub of_kronecker : (op : BinaryOp) (a b : MatrixId) → matrix_made r (call.WriteMatrix c mask accum (matrix_term.Kronecker op a b) d) m
      ≡ written_matrix (option_map (entries_of_matrix r) mask) accum d (kronecker_computed r op d.tran d.tran1 a b) m

-- the same of a vector
pub record WritesVector (r : StoredObjects) (x : Vector) (w : VectorId) (mask : Option VectorId) (accum : Option BinaryOp) (d : Descriptor) : Type 0 where
  pub of_ewise_add : (op : BinaryOp) (u v : VectorId) → vector_made r (call.EwiseAddVector w mask accum op u v d) x
      ≡ written_vector (option_map (entries_of_vector r) mask) accum d (ewise_add nat_cmp op (entries_of_vector r u) (entries_of_vector r v)) x
  pub of_ewise_mult : (op : BinaryOp) (u v : VectorId) → vector_made r (call.EwiseMultVector w mask accum op u v d) x
      ≡ written_vector (option_map (entries_of_vector r) mask) accum d (ewise_mult nat_cmp op (entries_of_vector r u) (entries_of_vector r v)) x
  pub of_mxv : (semiring : SemiringParts) (a : MatrixId) (u : VectorId) → vector_made r (call.Mxv w mask accum semiring a u d) x
      ≡ written_vector (option_map (entries_of_vector r) mask) accum d (mxv_of semiring (turned d.tran (entries_of_matrix r a)) (entries_of_vector r u)) x
  pub of_vxm : (semiring : SemiringParts) (u : VectorId) (a : MatrixId) → vector_made r (call.Vxm w mask accum semiring u a d) x
      ≡ written_vector (option_map (entries_of_vector r) mask) accum d (vxm_of semiring (entries_of_vector r u) (turned d.tran1 (entries_of_matrix r a))) x
  pub of_reduce_rows : (monoid : Monoid) (a : MatrixId) → vector_made r (call.ReduceRows w mask accum monoid a d) x
      ≡ written_vector (option_map (entries_of_vector r) mask) accum d (reduce_rows_of monoid (turned d.tran (entries_of_matrix r a))) x
  pub of_apply : (f : Function) (u : VectorId) → vector_made r (call.WriteVector w mask accum (vector_term.Applied f u) d) x
      ≡ written_vector (option_map (entries_of_vector r) mask) accum d (applied f (entries_of_vector r u)) x
  pub of_select : (t : Test) (u : VectorId) → vector_made r (call.WriteVector w mask accum (vector_term.Selected t u) d) x
      ≡ written_vector (option_map (entries_of_vector r) mask) accum d (selected_indices t (entries_of_vector r u)) x

abbrev pub MatricesAreWritten : Type 0
MatricesAreWritten = (r : StoredObjects) (m : Matrix) (c : MatrixId) (mask : Option MatrixId) (accum : Option BinaryOp) (d : Descriptor) → WritesMatrix r m c mask accum d

abbrev pub VectorsAreWritten : Type 0
VectorsAreWritten = (r : StoredObjects) (x : Vector) (w : VectorId) (mask : Option VectorId) (accum : Option BinaryOp) (d : Descriptor) → WritesVector r x w mask accum d

-- a call that changes a vector makes nothing of a matrix
abbrev pub MatricesStayApart : Type 0
MatricesStayApart = (r : StoredObjects) (c : Call) (v : VectorId) (m : Matrix) → output_of c ≡ Some (object.Vector v) → matrix_made r c m ≡ m

-- and one that changes a matrix nothing of a vector
abbrev pub VectorsStayApart : Type 0
VectorsStayApart = (r : StoredObjects) (c : Call) (a : MatrixId) (x : Vector) → output_of c ≡ Some (object.Matrix a) → vector_made r c x ≡ x
