-- What a product or a reduction of rows that is not refused is lent, and what it leaves of its output.
use Rattle.std.proofs.Common.{◌≡◌, ℕ, true, List, sym, ap, ◌∙◌, Option, Some, None, IfSome, is_some}
use Rattle.std.specs.Option.{option_map}
use Rattle.std.specs.Ordering.{nat_cmp}
use Rattle.std.proofs.lemmas.Bool.{and_parts}
use Rattle.grb_core.specs.declared.domain.Domain.{Domain}
use Rattle.grb_core.specs.declared.operator.BinaryOp.{BinaryOp}
use Rattle.grb_core.specs.declared.monoid.Monoid.{Monoid}
use Rattle.grb_core.specs.Contents.{Matrix, Vector, edited_matrix, edited_vector}
use Rattle.grb_core.specs.Entries.{cell_cmp, MatrixEntries, VectorEntries}
use Rattle.grb_core.specs.Mask.{is_inside}
use Rattle.grb_core.specs.Written.{written}
use Rattle.grb_core.specs.Semiring.{SemiringParts}
use Rattle.grb_core.specs.Results.{mxv_of, mxm_of, reduce_rows_of, turned, vxm_of}
use Rattle.grb_sparse.specs.Matrix.{SparseMatrixView}
use Rattle.grb_sparse.specs.Vector.{SparseVectorView}
use Rattle.grb_call.specs.declared.call.Call.TheVariants as call
use Rattle.grb_core.specs.declared.descriptor.Descriptor.{Descriptor}
use Rattle.grb_call.specs.declared.ids.MatrixId.{MatrixId}
use Rattle.grb_call.specs.declared.ids.VectorId.{VectorId}
use Rattle.grb_call.specs.declared.ids.Object.TheVariants as object
use Rattle.grb_call.specs.Output.{objects_in, matrix_left, vector_left}
use Rattle.grb_call.specs.Shapes.{object_at, is_live}
use Rattle.grb_call.specs.Store.{shapes_of, vector_at, matrix_at, matrix_entries, vector_entries, matrix_shape, vector_shape}
use Rattle.grb_call.specs.After.{refused}
use Rattle.grb_call.proofs.Passed.{HasPassed, has_passed}
use Rattle.grb_call.proofs.Operated.{writes_matrix, writes_vector}
use Rattle.grb_call.proofs.Operations.{IsVectorAt, IsMatrixMask, IsVectorMask}
use Rattle.grb_call.proofs.Products.{MxvOperands, mxv_operands, MxmOperands, mxm_operands, ReduceRowsOperands, reduce_rows_operands, VxmOperands, vxm_operands}
use Rattle.grb_objects.specs.Stored.{stored, stored_matrix, stored_vector}
use Rattle.grb_operations.proofs.Lent.{held, at_matrix, at_vector, matrix_mask_held, vector_mask_held, matrix_is, vector_is, matrix_entries-at, vector_entries-at}

module _ (ms : List (Option SparseMatrixView)) (vs : List (Option SparseVectorView)) where
  -- what is lent has the domain and the size that are known of the object
  pub lent_vector_is : (v : VectorId) (y : SparseVectorView) → object_at vs v.0 ≡ Some y → (domain : Domain) (size : ℕ) → IsVectorAt (stored ms vs) v domain size → (y.vector.domain ≡ domain) × (y.vector.size ≡ size)
  lent_vector_is v y at domain size is =
      let same = vector_is ms vs (vector_at (stored ms vs) v) is.vector y.vector is.at (at_vector ms vs v y at) in
      (ap (λ (x : Vector). x.domain) (sym same) ∙ is.same_domain, ap (λ (x : Vector). x.size) (sym same) ∙ is.same_size)

  module _ {B : Type 0} (now : B → SparseVectorView) where
    pub lent_mask_is : (mask : Option VectorId) (lent : Option B) → option_map (λ m. Some (now m)) lent ≡ option_map (λ x. object_at vs x.0) mask → (size : ℕ) → IsVectorMask (stored ms vs) mask size →
        IfSome lent (λ m. (now m).vector.size ≡ size)
    lent_mask_is None None e size is = tt
    lent_mask_is None (Some b) e size is = cc
    lent_mask_is (Some z) None e size is = tt
    lent_mask_is (Some z) (Some b) e size is =
        let at : object_at vs z.0 ≡ Some (now b) = cc in
        let same = vector_is ms vs (vector_at (stored ms vs) z) is.0 (now b).vector is.1 (at_vector ms vs z (now b) at) in
        ap (λ (x : Vector). x.size) (sym same) ∙ is.2

  -- mxv
  module _ (w : VectorId) (mask : Option VectorId) (accum : Option BinaryOp) (semiring : SemiringParts) (a : MatrixId) (u : VectorId) (d : Descriptor)
      (accepted : refused (stored ms vs) (call.Mxv w mask accum semiring a u d) ≡ None) where
    mxv_passed : HasPassed (stored ms vs) (call.Mxv w mask accum semiring a u d)
    mxv_passed = has_passed (stored ms vs) (call.Mxv w mask accum semiring a u d) accepted

    pub mxv_matrix-there : is_some (object_at ms a.0) ≡ true
    mxv_matrix-there = held stored_matrix matrix_shape ms a.0 (and_parts _ _ (and_parts _ _ mxv_passed.initialized).1).0

    pub mxv_vector-there : is_some (object_at vs u.0) ≡ true
    mxv_vector-there = held stored_vector vector_shape vs u.0 (and_parts _ _ (and_parts _ _ (and_parts _ _ mxv_passed.initialized).1).1).0

    pub mxv_mask-there : IfSome mask (λ x. is_some (object_at vs x.0) ≡ true)
    mxv_mask-there =
        let rest = and_parts (is_live (shapes_of (stored ms vs)) (object.Matrix a)) _ (and_parts (is_live (shapes_of (stored ms vs)) (object.Vector w)) _ mxv_passed.initialized).1 in
        vector_mask_held ms vs mask (and_parts (is_live (shapes_of (stored ms vs)) (object.Vector u)) _ rest.1).1

    pub mxv_are : (x : SparseVectorView) → object_at vs w.0 ≡ Some x → MxvOperands (stored ms vs) x.vector d.tran mask accum semiring a u
    mxv_are x at = mxv_operands (stored ms vs) w x.vector (at_vector ms vs w x at) d.tran mask accum semiring a u mxv_passed.initialized mxv_passed.one_domain mxv_passed.fits

  -- vxm
  module _ (w : VectorId) (mask : Option VectorId) (accum : Option BinaryOp) (semiring : SemiringParts) (u : VectorId) (a : MatrixId) (d : Descriptor)
      (accepted : refused (stored ms vs) (call.Vxm w mask accum semiring u a d) ≡ None) where
    vxm_passed : HasPassed (stored ms vs) (call.Vxm w mask accum semiring u a d)
    vxm_passed = has_passed (stored ms vs) (call.Vxm w mask accum semiring u a d) accepted

    pub vxm_vector-there : is_some (object_at vs u.0) ≡ true
    vxm_vector-there = held stored_vector vector_shape vs u.0 (and_parts _ _ (and_parts _ _ vxm_passed.initialized).1).0

    pub vxm_matrix-there : is_some (object_at ms a.0) ≡ true
    vxm_matrix-there = held stored_matrix matrix_shape ms a.0 (and_parts _ _ (and_parts _ _ (and_parts _ _ vxm_passed.initialized).1).1).0

    pub vxm_mask-there : IfSome mask (λ x. is_some (object_at vs x.0) ≡ true)
    vxm_mask-there =
        let rest = and_parts (is_live (shapes_of (stored ms vs)) (object.Vector u)) _ (and_parts (is_live (shapes_of (stored ms vs)) (object.Vector w)) _ vxm_passed.initialized).1 in
        vector_mask_held ms vs mask (and_parts (is_live (shapes_of (stored ms vs)) (object.Matrix a)) _ rest.1).1

    pub vxm_are : (x : SparseVectorView) → object_at vs w.0 ≡ Some x → VxmOperands (stored ms vs) x.vector d.tran1 mask accum semiring u a
    vxm_are x at = vxm_operands (stored ms vs) w x.vector (at_vector ms vs w x at) d.tran1 mask accum semiring u a vxm_passed.initialized vxm_passed.one_domain vxm_passed.fits

  module _ {B : Type 0} (now : B → SparseMatrixView) where
    pub lent_matrix_mask_is : (mask : Option MatrixId) (lent : Option B) → option_map (λ m. Some (now m)) lent ≡ option_map (λ x. object_at ms x.0) mask → (nrows ncols : ℕ) → IsMatrixMask (stored ms vs) mask nrows ncols →
        IfSome lent (λ m. ((now m).matrix.nrows ≡ nrows) × ((now m).matrix.ncols ≡ ncols))
    lent_matrix_mask_is None None e nrows ncols is = tt
    lent_matrix_mask_is None (Some b) e nrows ncols is = cc
    lent_matrix_mask_is (Some z) None e nrows ncols is = tt
    lent_matrix_mask_is (Some z) (Some b) e nrows ncols is =
        let at : object_at ms z.0 ≡ Some (now b) = cc in
        let same = matrix_is ms vs (matrix_at (stored ms vs) z) is.0 (now b).matrix is.1 (at_matrix ms vs z (now b) at) in
        (ap (λ (m : Matrix). m.nrows) (sym same) ∙ is.2, ap (λ (m : Matrix). m.ncols) (sym same) ∙ is.3)

  -- mxm
  module _ (c : MatrixId) (mask : Option MatrixId) (accum : Option BinaryOp) (semiring : SemiringParts) (a b : MatrixId) (d : Descriptor)
      (accepted : refused (stored ms vs) (call.Mxm c mask accum semiring a b d) ≡ None) where
    mxm_passed : HasPassed (stored ms vs) (call.Mxm c mask accum semiring a b d)
    mxm_passed = has_passed (stored ms vs) (call.Mxm c mask accum semiring a b d) accepted

    pub mxm_first-there : is_some (object_at ms a.0) ≡ true
    mxm_first-there = held stored_matrix matrix_shape ms a.0 (and_parts _ _ (and_parts _ _ mxm_passed.initialized).1).0

    pub mxm_second-there : is_some (object_at ms b.0) ≡ true
    mxm_second-there = held stored_matrix matrix_shape ms b.0 (and_parts _ _ (and_parts _ _ (and_parts _ _ mxm_passed.initialized).1).1).0

    pub mxm_mask-there : IfSome mask (λ x. is_some (object_at ms x.0) ≡ true)
    mxm_mask-there =
        let rest = and_parts (is_live (shapes_of (stored ms vs)) (object.Matrix a)) _ (and_parts (is_live (shapes_of (stored ms vs)) (object.Matrix c)) _ mxm_passed.initialized).1 in
        matrix_mask_held ms vs mask (and_parts (is_live (shapes_of (stored ms vs)) (object.Matrix b)) _ rest.1).1

    pub mxm_are : (x : SparseMatrixView) → object_at ms c.0 ≡ Some x → MxmOperands (stored ms vs) x.matrix d.tran d.tran1 mask accum semiring a b
    mxm_are x at = mxm_operands (stored ms vs) c x.matrix (at_matrix ms vs c x at) d.tran d.tran1 mask accum semiring a b mxm_passed.initialized mxm_passed.one_domain mxm_passed.fits

    pub mxm-left : (x y z : SparseMatrixView) → object_at ms c.0 ≡ Some x → object_at ms a.0 ≡ Some y → object_at ms b.0 ≡ Some z → (lent : Option MatrixEntries) → lent ≡ option_map (matrix_entries (stored ms vs)) mask →
        (made : Matrix) → made ≡ edited_matrix (λ old. written cell_cmp (is_inside cell_cmp d.structure d.comp lent) d.replace accum old (mxm_of semiring (turned d.tran y.matrix.entries) (turned d.tran1 z.matrix.entries))) x.matrix →
        matrix_left (stored ms vs) (call.Mxm c mask accum semiring a b d) (matrix_at (stored ms vs) c) ≡ Some made
    mxm-left x y z at_output at_first at_second lent same_mask made is =
        let s = stored ms vs in
        let write : Option MatrixEntries → MatrixEntries → Matrix = λ m computed. edited_matrix (λ old. written cell_cmp (is_inside cell_cmp d.structure d.comp m) d.replace accum old computed) x.matrix in
        ap (λ (o : Option Matrix). matrix_left s (call.Mxm c mask accum semiring a b d) o) (at_matrix ms vs c x at_output)
        ∙ ap (λ (m : Matrix). Some m) ((writes_matrix (objects_in s) mask accum d x.matrix c).of_mxm semiring a b ∙ sym (is
        ∙ ap (λ m. write m (mxm_of semiring (turned d.tran y.matrix.entries) (turned d.tran1 z.matrix.entries))) same_mask
        ∙ ap (λ (es : MatrixEntries). write (option_map (matrix_entries s) mask) (mxm_of semiring (turned d.tran es) (turned d.tran1 z.matrix.entries))) (sym (matrix_entries-at ms vs a y at_first))
        ∙ ap (λ (es : MatrixEntries). write (option_map (matrix_entries s) mask) (mxm_of semiring (turned d.tran (matrix_entries s a)) (turned d.tran1 es))) (sym (matrix_entries-at ms vs b z at_second))))

  -- a reduction of rows
  module _ (w : VectorId) (mask : Option VectorId) (accum : Option BinaryOp) (monoid : Monoid) (a : MatrixId) (d : Descriptor)
      (accepted : refused (stored ms vs) (call.ReduceRows w mask accum monoid a d) ≡ None) where
    rows_passed : HasPassed (stored ms vs) (call.ReduceRows w mask accum monoid a d)
    rows_passed = has_passed (stored ms vs) (call.ReduceRows w mask accum monoid a d) accepted

    pub rows_matrix-there : is_some (object_at ms a.0) ≡ true
    rows_matrix-there = held stored_matrix matrix_shape ms a.0 (and_parts _ _ (and_parts _ _ rows_passed.initialized).1).0

    pub rows_mask-there : IfSome mask (λ x. is_some (object_at vs x.0) ≡ true)
    rows_mask-there = vector_mask_held ms vs mask (and_parts _ _ (and_parts _ _ rows_passed.initialized).1).1

    pub rows_are : (x : SparseVectorView) → object_at vs w.0 ≡ Some x → ReduceRowsOperands (stored ms vs) x.vector d.tran mask accum monoid a
    rows_are x at = reduce_rows_operands (stored ms vs) w x.vector (at_vector ms vs w x at) d.tran mask accum monoid a rows_passed.initialized rows_passed.one_domain rows_passed.fits

  -- what is left of the output, where this was computed and written
  module _ (w : VectorId) (mask : Option VectorId) (accum : Option BinaryOp) (d : Descriptor) (x : SparseVectorView) (at_output : object_at vs w.0 ≡ Some x)
      (lent : Option VectorEntries) (same_mask : lent ≡ option_map (vector_entries (stored ms vs)) mask) (made : Vector) where
    abbrev write : Option VectorEntries → VectorEntries → Vector
    write m computed = edited_vector (λ old. written nat_cmp (is_inside nat_cmp d.structure d.comp m) d.replace accum old computed) x.vector

    pub mxv-left : (semiring : SemiringParts) (a : MatrixId) (u : VectorId) (y : SparseMatrixView) (z : SparseVectorView) → object_at ms a.0 ≡ Some y → object_at vs u.0 ≡ Some z →
        made ≡ write lent (mxv_of semiring (turned d.tran y.matrix.entries) z.vector.entries) →
        vector_left (stored ms vs) (call.Mxv w mask accum semiring a u d) (vector_at (stored ms vs) w) ≡ Some made
    mxv-left semiring a u y z at_matrix_input at_vector_input is =
        let s = stored ms vs in
        ap (λ (o : Option Vector). vector_left s (call.Mxv w mask accum semiring a u d) o) (at_vector ms vs w x at_output)
        ∙ ap (λ (v : Vector). Some v) ((writes_vector (objects_in s) mask accum d x.vector w).of_mxv semiring a u ∙ sym (is
        ∙ ap (λ m. write m (mxv_of semiring (turned d.tran y.matrix.entries) z.vector.entries)) same_mask
        ∙ ap (λ (es : MatrixEntries). write (option_map (vector_entries s) mask) (mxv_of semiring (turned d.tran es) z.vector.entries)) (sym (matrix_entries-at ms vs a y at_matrix_input))
        ∙ ap (λ (es : VectorEntries). write (option_map (vector_entries s) mask) (mxv_of semiring (turned d.tran (matrix_entries s a)) es)) (sym (vector_entries-at ms vs u z at_vector_input))))

    pub vxm-left : (semiring : SemiringParts) (u : VectorId) (a : MatrixId) (z : SparseVectorView) (y : SparseMatrixView) → object_at vs u.0 ≡ Some z → object_at ms a.0 ≡ Some y →
        made ≡ write lent (vxm_of semiring z.vector.entries (turned d.tran1 y.matrix.entries)) →
        vector_left (stored ms vs) (call.Vxm w mask accum semiring u a d) (vector_at (stored ms vs) w) ≡ Some made
    vxm-left semiring u a z y at_vector_input at_matrix_input is =
        let s = stored ms vs in
        ap (λ (o : Option Vector). vector_left s (call.Vxm w mask accum semiring u a d) o) (at_vector ms vs w x at_output)
        ∙ ap (λ (v : Vector). Some v) ((writes_vector (objects_in s) mask accum d x.vector w).of_vxm semiring u a ∙ sym (is
        ∙ ap (λ m. write m (vxm_of semiring z.vector.entries (turned d.tran1 y.matrix.entries))) same_mask
        ∙ ap (λ (es : MatrixEntries). write (option_map (vector_entries s) mask) (vxm_of semiring z.vector.entries (turned d.tran1 es))) (sym (matrix_entries-at ms vs a y at_matrix_input))
        ∙ ap (λ (es : VectorEntries). write (option_map (vector_entries s) mask) (vxm_of semiring es (turned d.tran1 (matrix_entries s a)))) (sym (vector_entries-at ms vs u z at_vector_input))))

    pub rows-left : (monoid : Monoid) (a : MatrixId) (y : SparseMatrixView) → object_at ms a.0 ≡ Some y → made ≡ write lent (reduce_rows_of monoid (turned d.tran y.matrix.entries)) →
        vector_left (stored ms vs) (call.ReduceRows w mask accum monoid a d) (vector_at (stored ms vs) w) ≡ Some made
    rows-left monoid a y at_matrix_input is =
        let s = stored ms vs in
        ap (λ (o : Option Vector). vector_left s (call.ReduceRows w mask accum monoid a d) o) (at_vector ms vs w x at_output)
        ∙ ap (λ (v : Vector). Some v) ((writes_vector (objects_in s) mask accum d x.vector w).of_reduce_rows monoid a ∙ sym (is
        ∙ ap (λ m. write m (reduce_rows_of monoid (turned d.tran y.matrix.entries))) same_mask
        ∙ ap (λ (es : MatrixEntries). write (option_map (vector_entries s) mask) (reduce_rows_of monoid (turned d.tran es))) (sym (matrix_entries-at ms vs a y at_matrix_input))))
