-- What a call leaves of an object and answers, in two stores that hold the same objects at its numbers.
use Rattle.std.proofs.Common.{◌≡◌, Bool, refl, sym, ap, ◌∙◌, Option, None, Some, option_map, Ok, Err}
use Rattle.std.specs.Option.{option_map_or}
use Rattle.std.specs.Ordering.{nat_cmp}
use Rattle.std.specs.FinMap.{find}
use Rattle.grb_core.specs.declared.refusal.Refusal.{Refusal}
use Rattle.grb_core.specs.declared.value.Value.{Value}
use Rattle.grb_core.specs.Contents.{Matrix, Vector}
use Rattle.grb_core.specs.Entries.{cell_cmp, nvals_of}
use Rattle.grb_core.specs.Results.{ewise_add, ewise_mult, mxv_of, mxm_of, reduce_of, reduce_rows_of, turned, vxm_of}
use Rattle.grb_core.specs.declared.operator.BinaryOp.{BinaryOp}
use Rattle.grb_core.specs.Maps.{applied, selected_cells, selected_indices}
use Rattle.grb_call.specs.declared.call.Call.{Call}
use Rattle.grb_call.specs.declared.call.Call.TheVariants as call
use Rattle.grb_call.proofs.Operated.{kronecker_by}
use Rattle.grb_call.specs.declared.ids.MatrixId.{MatrixId}
use Rattle.grb_call.specs.declared.ids.VectorId.{VectorId}
use Rattle.grb_call.specs.declared.ids.Object.{Object}
use Rattle.grb_call.specs.declared.ids.Object.TheVariants as object
use Rattle.grb_call.specs.declared.operation.Input.TheVariants.{First, Second}
use Rattle.grb_call.specs.declared.operation.Operation.{Operation}
use Rattle.grb_call.specs.declared.operation.OperationKind.{OperationKind}
use Rattle.grb_call.specs.declared.operation.OperationKind.TheVariants.{EwiseAdd, EwiseMult, Product, Rows, Transpose, Apply, Select, Kronecker}
use Rattle.grb_call.specs.declared.reply.Reply.{Reply}
use Rattle.grb_call.specs.declared.reply.Reply.TheVariants as reply
use Rattle.grb_call.specs.After.{get_reply, reply_of, refused, answer}
use Rattle.grb_call.specs.Numbers.{next_matrix, next_vector}
use Rattle.grb_call.specs.Operation.{operation_of, turns}
use Rattle.grb_call.specs.Output.{StoredObjects, objects_in, entries_of_matrix, entries_of_vector, kronecker_computed, matrix_read, vector_read, matrix_input, matrix_computed, vector_computed, matrix_operated, vector_operated, matrix_made, vector_made, matrix_left, vector_left}
use Rattle.grb_call.specs.Store.{Store}
use Rattle.grb_core.specs.Written.{written_matrix, written_vector}
use Rattle.grb_numbers.specs.Inside.{Renaming, renamed, renamed_answer, renamed_object, renamed_reply}
use Rattle.grb_numbers.proofs.Renamed.{renamed_operation, operation_of-renamed}
use Rattle.grb_numbers.proofs.Same.{HoldsSame, m_entries, v_entries, refused-same}

module _ (t s : Store) (r : Renaming) (same : HoldsSame t s r) where
  abbrev O : StoredObjects
  O = objects_in t

  abbrev P : StoredObjects
  P = objects_in s

  entries_m : (a : MatrixId) → entries_of_matrix O a ≡ entries_of_matrix P (r.matrix a)
  entries_m a = m_entries t s r same a

  entries_v : (v : VectorId) → entries_of_vector O v ≡ entries_of_vector P (r.vector v)
  entries_v v = v_entries t s r same v

  input-same : (tran : Bool) (a : MatrixId) → matrix_input O tran a ≡ matrix_input P tran (r.matrix a)
  input-same tran a = λ i. turned tran (entries_m a i)

  kronecker-same : (op : BinaryOp) (tran tran1 : Bool) (a b : MatrixId) → kronecker_computed O op tran tran1 a b ≡ kronecker_computed P op tran tran1 (r.matrix a) (r.matrix b)
  kronecker-same op tran tran1 a b = λ i. kronecker_by op tran tran1 (same.matrix a i) (same.matrix b i)

  matrix_computed-same : (kind : OperationKind) (tran tran1 : Bool) (p q : Option Object) →
      matrix_computed O kind tran tran1 p q ≡ matrix_computed P kind tran tran1 (option_map (renamed_object r) p) (option_map (renamed_object r) q)
  matrix_computed-same (EwiseAdd op) tran tran1 (Some (object.Matrix a)) (Some (object.Matrix b)) = λ i. Some (ewise_add cell_cmp op (input-same tran a i) (input-same tran1 b i))
  matrix_computed-same (EwiseMult op) tran tran1 (Some (object.Matrix a)) (Some (object.Matrix b)) = λ i. Some (ewise_mult cell_cmp op (input-same tran a i) (input-same tran1 b i))
  matrix_computed-same (Product semiring) tran tran1 (Some (object.Matrix a)) (Some (object.Matrix b)) = λ i. Some (mxm_of semiring (input-same tran a i) (input-same tran1 b i))
  matrix_computed-same Transpose tran tran1 (Some (object.Matrix a)) None = λ i. Some (input-same tran a i)
  matrix_computed-same (Apply f) tran tran1 (Some (object.Matrix a)) None = λ i. Some (applied f (input-same tran a i))
  matrix_computed-same (Select p) tran tran1 (Some (object.Matrix a)) None = λ i. Some (selected_cells p (input-same tran a i))
  matrix_computed-same (Kronecker op) tran tran1 (Some (object.Matrix a)) (Some (object.Matrix b)) = λ i. Some (kronecker-same op tran tran1 a b i)
  matrix_computed-same _ tran tran1 _ _ = refl

  vector_computed-same : (kind : OperationKind) (tran tran1 : Bool) (p q : Option Object) →
      vector_computed O kind tran tran1 p q ≡ vector_computed P kind tran tran1 (option_map (renamed_object r) p) (option_map (renamed_object r) q)
  vector_computed-same (EwiseAdd op) tran tran1 (Some (object.Vector u)) (Some (object.Vector v)) = λ i. Some (ewise_add nat_cmp op (entries_v u i) (entries_v v i))
  vector_computed-same (EwiseMult op) tran tran1 (Some (object.Vector u)) (Some (object.Vector v)) = λ i. Some (ewise_mult nat_cmp op (entries_v u i) (entries_v v i))
  vector_computed-same (Product semiring) tran tran1 (Some (object.Matrix a)) (Some (object.Vector u)) = λ i. Some (mxv_of semiring (input-same tran a i) (entries_v u i))
  vector_computed-same (Product semiring) tran tran1 (Some (object.Vector u)) (Some (object.Matrix a)) = λ i. Some (vxm_of semiring (entries_v u i) (input-same tran1 a i))
  vector_computed-same (Rows monoid) tran tran1 (Some (object.Matrix a)) None = λ i. Some (reduce_rows_of monoid (input-same tran a i))
  vector_computed-same (Apply f) tran tran1 (Some (object.Vector u)) None = λ i. Some (applied f (entries_v u i))
  vector_computed-same (Select p) tran tran1 (Some (object.Vector u)) None = λ i. Some (selected_indices p (entries_v u i))
  vector_computed-same _ tran tran1 _ _ = refl

  matrix_mask-same : (mask : Option Object) → option_map (matrix_read O) mask ≡ option_map (matrix_read P) (option_map (renamed_object r) mask)
  matrix_mask-same None = refl
  matrix_mask-same (Some (object.Matrix a)) = λ i. Some (entries_m a i)
  matrix_mask-same (Some (object.Vector v)) = refl

  vector_mask-same : (mask : Option Object) → option_map (vector_read O) mask ≡ option_map (vector_read P) (option_map (renamed_object r) mask)
  vector_mask-same None = refl
  vector_mask-same (Some (object.Matrix a)) = refl
  vector_mask-same (Some (object.Vector v)) = λ i. Some (entries_v v i)

  matrix_operated-same : (o : Operation) (m : Matrix) → matrix_operated O o m ≡ matrix_operated P (renamed_operation r o) m
  matrix_operated-same o m =
      λ i. option_map_or (λ computed. written_matrix (matrix_mask-same o.mask i) o.accum o.d computed m) (matrix_computed-same o.kind (turns o.kind o.d First) (turns o.kind o.d Second) o.first o.second i) m

  vector_operated-same : (o : Operation) (x : Vector) → vector_operated O o x ≡ vector_operated P (renamed_operation r o) x
  vector_operated-same o x =
      λ i. option_map_or (λ computed. written_vector (vector_mask-same o.mask i) o.accum o.d computed x) (vector_computed-same o.kind (turns o.kind o.d First) (turns o.kind o.d Second) o.first o.second i) x

  any_matrix : (q : Option Operation) (m : Matrix) → option_map_or (λ o. matrix_operated O o m) q m ≡ option_map_or (λ o. matrix_operated P o m) (option_map (renamed_operation r) q) m
  any_matrix None m = refl
  any_matrix (Some o) m = matrix_operated-same o m

  any_vector : (q : Option Operation) (x : Vector) → option_map_or (λ o. vector_operated O o x) q x ≡ option_map_or (λ o. vector_operated P o x) (option_map (renamed_operation r) q) x
  any_vector None x = refl
  any_vector (Some o) x = vector_operated-same o x

  by_matrix_operation : (c : Call) (m : Matrix) → option_map_or (λ o. matrix_operated O o m) (operation_of c) m ≡ option_map_or (λ o. matrix_operated P o m) (operation_of (renamed r c)) m
  by_matrix_operation c m = any_matrix (operation_of c) m ∙ ap (λ (q : Option Operation). option_map_or (λ o. matrix_operated P o m) q m) (sym (operation_of-renamed r c))

  by_vector_operation : (c : Call) (x : Vector) → option_map_or (λ o. vector_operated O o x) (operation_of c) x ≡ option_map_or (λ o. vector_operated P o x) (operation_of (renamed r c)) x
  by_vector_operation c x = any_vector (operation_of c) x ∙ ap (λ (q : Option Operation). option_map_or (λ o. vector_operated P o x) q x) (sym (operation_of-renamed r c))

  matrix_made-same : (c : Call) (m : Matrix) → matrix_made O c m ≡ matrix_made P (renamed r c) m
  matrix_made-same (call.SetMatrix a i j value) m = refl
  matrix_made-same (call.RemoveMatrix a i j) m = refl
  matrix_made-same (call.ClearMatrix a) m = refl
  matrix_made-same (call.ResizeMatrix a nrows ncols) m = refl
  matrix_made-same (call.BuildMatrix a tuples dup) m = refl
  matrix_made-same c m = by_matrix_operation c m

  vector_made-same : (c : Call) (x : Vector) → vector_made O c x ≡ vector_made P (renamed r c) x
  vector_made-same (call.SetVector v i value) x = refl
  vector_made-same (call.RemoveVector v i) x = refl
  vector_made-same (call.ClearVector v) x = refl
  vector_made-same (call.ResizeVector v size) x = refl
  vector_made-same (call.BuildVector v tuples dup) x = refl
  vector_made-same c x = by_vector_operation c x

  -- what is left of an object
  pub matrix_left-same : (c : Call) (m : Option Matrix) → matrix_left t c m ≡ matrix_left s (renamed r c) m
  matrix_left-same (call.FreeMatrix a) m = refl
  matrix_left-same c m = λ i. option_map (λ x. matrix_made-same c x i) m

  pub vector_left-same : (c : Call) (x : Option Vector) → vector_left t c x ≡ vector_left s (renamed r c) x
  vector_left-same (call.FreeVector v) x = refl
  vector_left-same c x = λ i. option_map (λ y. vector_made-same c y i) x

  -- replies
  get-renamed : (q : Renaming) (o : Option Value) → get_reply o ≡ renamed_reply q (get_reply o)
  get-renamed q None = refl
  get-renamed q (Some v) = refl

  dims-renamed : (q : Renaming) (o : Option Matrix) → option_map_or (λ m. reply.Dims m.nrows m.ncols) o reply.Done ≡ renamed_reply q (option_map_or (λ m. reply.Dims m.nrows m.ncols) o reply.Done)
  dims-renamed q None = refl
  dims-renamed q (Some m) = refl

  size-renamed : (q : Renaming) (o : Option Vector) → option_map_or (λ x. reply.Size x.size) o reply.Done ≡ renamed_reply q (option_map_or (λ x. reply.Size x.size) o reply.Done)
  size-renamed q None = refl
  size-renamed q (Some x) = refl

  -- by a renaming that gives the next numbers of the one store for those of the other
  module _ (q : Renaming) (matrix : next_matrix t ≡ q.matrix (next_matrix s)) (vector : next_vector t ≡ q.vector (next_vector s)) where
    reply-same : (c : Call) → reply_of t c ≡ renamed_reply q (reply_of s (renamed r c))
    reply-same (call.NewMatrix domain nrows ncols) = ap reply.MadeMatrix matrix
    reply-same (call.NewVector domain size) = ap reply.MadeVector vector
    reply-same (call.DupMatrix a) = ap reply.MadeMatrix matrix
    reply-same (call.DupVector v) = ap reply.MadeVector vector
    reply-same (call.Diag v diagonal) = ap reply.MadeMatrix matrix
    reply-same (call.GetMatrix a i j) = (λ x. get_reply (find cell_cmp (i, j) (m_entries t s r same a x))) ∙ get-renamed q _
    reply-same (call.GetVector v i) = (λ x. get_reply (find nat_cmp i (v_entries t s r same v x))) ∙ get-renamed q _
    reply-same (call.NvalsMatrix a) = λ i. reply.Count (nvals_of (m_entries t s r same a i))
    reply-same (call.NvalsVector v) = λ i. reply.Count (nvals_of (v_entries t s r same v i))
    reply-same (call.SizeMatrix a) = (λ i. option_map_or (λ m. reply.Dims m.nrows m.ncols) (same.matrix a i) reply.Done) ∙ dims-renamed q _
    reply-same (call.SizeVector v) = (λ i. option_map_or (λ x. reply.Size x.size) (same.vector v i) reply.Done) ∙ size-renamed q _
    reply-same (call.ReduceMatrix a monoid) = λ i. reply.Value (reduce_of monoid (m_entries t s r same a i))
    reply-same (call.ReduceVector v monoid) = λ i. reply.Value (reduce_of monoid (v_entries t s r same v i))
    reply-same _ = refl

    answer_by : (o : Option Refusal) (x : Reply) → option_map_or Err o (Ok (renamed_reply q x)) ≡ renamed_answer q (option_map_or Err o (Ok x))
    answer_by None x = refl
    answer_by (Some refusal) x = refl

    pub answer-same : (c : Call) → answer t c ≡ renamed_answer q (answer s (renamed r c))
    answer-same c = (λ i. option_map_or Err (refused-same t s r same c i) (Ok (reply-same c i))) ∙ answer_by (refused s (renamed r c)) (reply_of s (renamed r c))
