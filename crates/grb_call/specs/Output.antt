-- believed: The object that a call changes, its output, and what the call makes of it: GraphBLAS C API 2.0, the methods of "Matrix
-- methods" and "Vector methods", and "Operations". Inputs, mask and old output are those of the store before the call, so that one
-- object may be all of them.
use Rattle.std.specs.Prelude.{ℕ, ◌*◌, Bool, [], if◌then◌else◌, Option, Some, None}
use Rattle.std.specs.Option.{option_map, option_map_or}
use Rattle.std.specs.Ordering.{nat_cmp}
use Rattle.std.specs.FinMap.{put}
use Rattle.grb_core.specs.declared.operator.BinaryOp.{BinaryOp}
use Rattle.grb_core.specs.Entries.{cell_cmp, MatrixEntries, VectorEntries, cells_of, without_entry, built_from}
use Rattle.grb_core.specs.Results.{ewise_add, ewise_mult, mxv_of, mxm_of, reduce_rows_of, turned, vxm_of}
use Rattle.grb_core.specs.Contents.{Matrix, Vector, edited_matrix, edited_vector, resized_matrix, resized_vector}
use Rattle.grb_core.specs.Maps.{applied, kronecker_of, selected_cells, selected_indices}
use Rattle.grb_call.specs.declared.call.Call.{Call}
use Rattle.grb_call.specs.declared.call.Call.TheVariants as call
use Rattle.grb_call.specs.declared.ids.MatrixId.{MatrixId}
use Rattle.grb_call.specs.declared.ids.VectorId.{VectorId}
use Rattle.grb_call.specs.declared.ids.Object.{Object}
use Rattle.grb_call.specs.declared.ids.Object.TheVariants as object
use Rattle.grb_call.specs.declared.operation.Input.TheVariants.{First, Second}
use Rattle.grb_call.specs.declared.operation.Operation.{Operation}
use Rattle.grb_call.specs.declared.operation.OperationKind.{OperationKind}
use Rattle.grb_call.specs.declared.operation.OperationKind.TheVariants.{EwiseAdd, EwiseMult, Product, Rows, Transpose, Apply, Select, Kronecker}
use Rattle.grb_call.specs.Kinds.{enters}
use Rattle.grb_call.specs.Operation.{operation_of, turns}
use Rattle.grb_call.specs.Status.{object_of}
use Rattle.grb_call.specs.Store.{Store, matrix_at, vector_at}
use Rattle.grb_core.specs.Written.{written_matrix, written_vector}

-- the object that the call changes, of those that were made before it
abbrev pub output_of : Call → Option Object
output_of c = if enters c then object_of c else None

-- the objects that a call may read, by number: domain, dimensions and entries of each, None where there is none
pub record StoredObjects : Type 0 where
  pub matrix : MatrixId → Option Matrix
  pub vector : VectorId → Option Vector

abbrev pub objects_in : Store → StoredObjects
objects_in s = record { matrix = matrix_at s; vector = vector_at s }

-- the entries of an object, and none of one that is not there
abbrev pub entries_of_matrix : StoredObjects → MatrixId → MatrixEntries
entries_of_matrix r a = option_map_or (λ m. m.entries) (r.matrix a) []

abbrev pub entries_of_vector : StoredObjects → VectorId → VectorEntries
entries_of_vector r v = option_map_or (λ x. x.entries) (r.vector v) []

-- the entries of an object that is a matrix, and of one that is a vector; none of an object of the other sort
abbrev pub matrix_read : StoredObjects → Object → MatrixEntries
matrix_read r (object.Matrix a) = entries_of_matrix r a
matrix_read r (object.Vector v) = []

abbrev pub vector_read : StoredObjects → Object → VectorEntries
vector_read r (object.Matrix a) = []
vector_read r (object.Vector v) = entries_of_vector r v

-- the entries of an input that is a matrix, turned or not
abbrev pub matrix_input : StoredObjects → Bool → MatrixId → MatrixEntries
matrix_input r tran a = turned tran (entries_of_matrix r a)

-- how many rows and columns it has so; 0 where it is not there
abbrev pub input_nrows : StoredObjects → Bool → MatrixId → ℕ
input_nrows r tran a = option_map_or (λ m. if tran then m.ncols else m.nrows) (r.matrix a) 0

abbrev pub input_ncols : StoredObjects → Bool → MatrixId → ℕ
input_ncols r tran a = option_map_or (λ m. if tran then m.nrows else m.ncols) (r.matrix a) 0

-- the Kronecker product of two inputs, each turned or not
abbrev pub kronecker_computed : StoredObjects → BinaryOp → Bool → Bool → MatrixId → MatrixId → MatrixEntries
kronecker_computed r op tran tran1 a b =
    kronecker_of op (input_nrows r tran1 b) (input_ncols r tran1 b) (input_nrows r tran a * input_nrows r tran1 b) (input_ncols r tran a * input_ncols r tran1 b)
    (matrix_input r tran a) (matrix_input r tran1 b)

-- the entries of the matrix that an operation computes of its inputs, each turned where it is a matrix and the `Bool` for it is true; none where
-- it computes a vector
abbrev pub matrix_computed : StoredObjects → OperationKind → Bool → Bool → Option Object → Option Object → Option MatrixEntries
matrix_computed r (EwiseAdd op) tran tran1 (Some (object.Matrix a)) (Some (object.Matrix b)) = Some (ewise_add cell_cmp op (matrix_input r tran a) (matrix_input r tran1 b))
matrix_computed r (EwiseMult op) tran tran1 (Some (object.Matrix a)) (Some (object.Matrix b)) = Some (ewise_mult cell_cmp op (matrix_input r tran a) (matrix_input r tran1 b))
matrix_computed r (Product semiring) tran tran1 (Some (object.Matrix a)) (Some (object.Matrix b)) = Some (mxm_of semiring (matrix_input r tran a) (matrix_input r tran1 b))
matrix_computed r Transpose tran tran1 (Some (object.Matrix a)) None = Some (matrix_input r tran a)
matrix_computed r (Apply f) tran tran1 (Some (object.Matrix a)) None = Some (applied f (matrix_input r tran a))
matrix_computed r (Select t) tran tran1 (Some (object.Matrix a)) None = Some (selected_cells t (matrix_input r tran a))
matrix_computed r (Kronecker op) tran tran1 (Some (object.Matrix a)) (Some (object.Matrix b)) = Some (kronecker_computed r op tran tran1 a b)
matrix_computed r _ tran tran1 _ _ = None

-- the same of a vector; none where the operation computes a matrix
abbrev pub vector_computed : StoredObjects → OperationKind → Bool → Bool → Option Object → Option Object → Option VectorEntries
vector_computed r (EwiseAdd op) tran tran1 (Some (object.Vector u)) (Some (object.Vector v)) = Some (ewise_add nat_cmp op (entries_of_vector r u) (entries_of_vector r v))
vector_computed r (EwiseMult op) tran tran1 (Some (object.Vector u)) (Some (object.Vector v)) = Some (ewise_mult nat_cmp op (entries_of_vector r u) (entries_of_vector r v))
vector_computed r (Product semiring) tran tran1 (Some (object.Matrix a)) (Some (object.Vector u)) = Some (mxv_of semiring (matrix_input r tran a) (entries_of_vector r u))
vector_computed r (Product semiring) tran tran1 (Some (object.Vector u)) (Some (object.Matrix a)) = Some (vxm_of semiring (entries_of_vector r u) (matrix_input r tran1 a))
vector_computed r (Rows monoid) tran tran1 (Some (object.Matrix a)) None = Some (reduce_rows_of monoid (matrix_input r tran a))
vector_computed r (Apply f) tran tran1 (Some (object.Vector u)) None = Some (applied f (entries_of_vector r u))
vector_computed r (Select t) tran tran1 (Some (object.Vector u)) None = Some (selected_indices t (entries_of_vector r u))
vector_computed r _ tran tran1 _ _ = None

-- what an operation computes of its inputs, as its descriptor turns them
abbrev pub matrix_of : StoredObjects → Operation → Option MatrixEntries
matrix_of r o = matrix_computed r o.kind (turns o.kind o.d First) (turns o.kind o.d Second) o.first o.second

abbrev pub vector_of : StoredObjects → Operation → Option VectorEntries
vector_of r o = vector_computed r o.kind (turns o.kind o.d First) (turns o.kind o.d Second) o.first o.second

-- the matrix that an operation leaves of this one: what it computes is written into it, where that is a matrix
abbrev pub matrix_operated : StoredObjects → Operation → Matrix → Matrix
matrix_operated r o m =
    option_map_or (λ computed. written_matrix (option_map (matrix_read r) o.mask) o.accum o.d computed m) (matrix_of r o) m

-- the same of a vector
abbrev pub vector_operated : StoredObjects → Operation → Vector → Vector
vector_operated r o x =
    option_map_or (λ computed. written_vector (option_map (vector_read r) o.mask) o.accum o.d computed x) (vector_of r o) x

-- the matrix that the call makes of the one that it changes and does not end, by the objects that it reads
abbrev pub matrix_made : StoredObjects → Call → Matrix → Matrix
matrix_made r (call.SetMatrix a i j value) m = edited_matrix (put cell_cmp (i, j) value) m
matrix_made r (call.RemoveMatrix a i j) m = edited_matrix (without_entry cell_cmp (i, j)) m
matrix_made r (call.ClearMatrix a) m = edited_matrix (λ _. []) m
matrix_made r (call.ResizeMatrix a nrows ncols) m = resized_matrix nrows ncols m
matrix_made r (call.BuildMatrix a tuples dup) m = edited_matrix (λ _. built_from cell_cmp dup (cells_of tuples)) m
matrix_made r c m = option_map_or (λ o. matrix_operated r o m) (operation_of c) m

-- the same of a vector
abbrev pub vector_made : StoredObjects → Call → Vector → Vector
vector_made r (call.SetVector v i value) x = edited_vector (put nat_cmp i value) x
vector_made r (call.RemoveVector v i) x = edited_vector (without_entry nat_cmp i) x
vector_made r (call.ClearVector v) x = edited_vector (λ _. []) x
vector_made r (call.ResizeVector v size) x = resized_vector size x
vector_made r (call.BuildVector v tuples dup) x = edited_vector (λ _. built_from nat_cmp dup tuples) x
vector_made r c x = option_map_or (λ o. vector_operated r o x) (operation_of c) x

-- the matrix that the call leaves, in this store, of the one that it changes and does not end
abbrev pub matrix_after : Store → Call → Matrix → Matrix
matrix_after s c m = matrix_made (objects_in s) c m

-- the vector that the call leaves, in this store, of the one that it changes and does not end
abbrev pub vector_after : Store → Call → Vector → Vector
vector_after s c x = vector_made (objects_in s) c x

-- what is left of the matrix that the call changes: nothing of one that it ends
abbrev pub matrix_left : Store → Call → Option Matrix → Option Matrix
matrix_left s (call.FreeMatrix a) m = None
matrix_left s c m = option_map (matrix_after s c) m

-- what is left of the vector that the call changes
abbrev pub vector_left : Store → Call → Option Vector → Option Vector
vector_left s (call.FreeVector v) x = None
vector_left s c x = option_map (vector_after s c) x
