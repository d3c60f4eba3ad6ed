-- What an operation asks of what it is lent holds of objects that are there, where no change waits in them.
use Rattle.std.proofs.Common.{◌≡◌, ℕ, true, List, ◌∷◌, subst, Option, Some, None, IfSome, Bor}
use Rattle.std.specs.Prelude.{Bool}
use Rattle.std.specs.Option.{option_map}
use Rattle.grb_core.specs.declared.domain.Domain.{Domain}
use Rattle.grb_core.specs.declared.operator.BinaryOp.{BinaryOp}
use Rattle.grb_core.specs.Written.{AccumulatesIn}
use Rattle.grb_ewise.specs.Premises.{IsMatrixInput, IsMatrixOutput, IsVectorInput, IsVectorOutput}
use Rattle.grb_sparse.specs.Matrix.{SparseMatrixView}
use Rattle.grb_sparse.specs.Vector.{SparseVectorView}
use Rattle.grb_call.specs.declared.ids.MatrixId.{MatrixId}
use Rattle.grb_call.specs.declared.ids.VectorId.{VectorId}
use Rattle.grb_call.specs.declared.ids.Object.TheVariants as object
use Rattle.grb_call.specs.Operands.{matrix_mask, vector_mask}
use Rattle.grb_call.specs.Shapes.{object_at}
use Rattle.grb_call.specs.Store.{shapes_of}
use Rattle.grb_call.proofs.Operations.{IsTurnedAt, IsVectorAt, IsMatrixMask, IsVectorMask}
use Rattle.grb_states.specs.Operation.{AreAllOf, IsAssembledMatrix, IsAssembledVector}
use Rattle.grb_objects.specs.Stored.{stored}
use Rattle.grb_operations.proofs.Lent.{MatrixTests, VectorTests, if_both-0, if_both-1, lent_turned_is, matrix_are, vector_are}
use Rattle.grb_operations.proofs.LentProducts.{lent_mask_is, lent_matrix_mask_is, lent_vector_is}

module _ (ms : List (Option SparseMatrixView)) (vs : List (Option SparseVectorView)) where
  matrix_assembled : (a : MatrixId) (y : SparseMatrixView) → object_at ms a.0 ≡ Some y → IsAssembledMatrix ms a.0 → y.assembled ≡ true
  matrix_assembled a y at done = subst (λ (o : Option SparseMatrixView). IfSome o (λ x. x.assembled ≡ true)) at done

  vector_assembled : (v : VectorId) (y : SparseVectorView) → object_at vs v.0 ≡ Some y → IsAssembledVector vs v.0 → y.assembled ≡ true
  vector_assembled v y at done = subst (λ (o : Option SparseVectorView). IfSome o (λ x. x.assembled ≡ true)) at done

  -- inputs
  pub turned_input : (a : MatrixId) (y : SparseMatrixView) → object_at ms a.0 ≡ Some y → (tran : Bool) (domain : Domain) (nrows ncols : ℕ) → IsTurnedAt (stored ms vs) tran a domain nrows ncols → IsAssembledMatrix ms a.0 → IsMatrixInput tran domain nrows ncols y
  turned_input a y at tran domain nrows ncols is done =
      let same = lent_turned_is ms vs a y at tran domain nrows ncols is in
      record { assembled = matrix_assembled a y at done; domain = same.0; rows = same.1; columns = same.2 }

  pub vector_input : (v : VectorId) (y : SparseVectorView) → object_at vs v.0 ≡ Some y → (domain : Domain) (size : ℕ) → IsVectorAt (stored ms vs) v domain size → IsAssembledVector vs v.0 → IsVectorInput domain size y
  vector_input v y at domain size is done =
      let same = lent_vector_is ms vs v y at domain size is in
      record { assembled = vector_assembled v y at done; domain = same.0; same_size = same.1 }

  -- outputs, each with the mask that is lent
  matrix_mask_assembled : (mask : Option MatrixId) (lent : Option (Bor SparseMatrixView)) → option_map (λ m. Some m.now) lent ≡ option_map (λ x. object_at ms x.0) mask → AreAllOf ms vs (matrix_mask mask) → IfSome lent (λ m. m.now.assembled ≡ true)
  matrix_mask_assembled None None e done = tt
  matrix_mask_assembled None (Some b) e done = cc
  matrix_mask_assembled (Some z) None e done = tt
  matrix_mask_assembled (Some z) (Some b) e done =
      let at : object_at ms z.0 ≡ Some b.now = cc in
      matrix_assembled z b.now at done.0

  vector_mask_assembled : (mask : Option VectorId) (lent : Option (Bor SparseVectorView)) → option_map (λ m. Some m.now) lent ≡ option_map (λ x. object_at vs x.0) mask → AreAllOf ms vs (vector_mask mask) → IfSome lent (λ m. m.now.assembled ≡ true)
  vector_mask_assembled None None e done = tt
  vector_mask_assembled None (Some b) e done = cc
  vector_mask_assembled (Some z) None e done = tt
  vector_mask_assembled (Some z) (Some b) e done =
      let at : object_at vs z.0 ≡ Some b.now = cc in
      vector_assembled z b.now at done.0

  pub matrix_output : (c : MatrixId) (x : SparseMatrixView) → object_at ms c.0 ≡ Some x → IsAssembledMatrix ms c.0 → (mask : Option MatrixId) (lent : Option (Bor SparseMatrixView))
      → option_map (λ m. Some m.now) lent ≡ option_map (λ x. object_at ms x.0) mask → AreAllOf ms vs (matrix_mask mask) → IsMatrixMask (stored ms vs) mask x.matrix.nrows x.matrix.ncols
      → (accum : Option BinaryOp) → AccumulatesIn x.matrix.domain accum → IsMatrixOutput x lent accum
  matrix_output c x at done mask lent e masks masked accum accumulates =
      let same = lent_matrix_mask_is ms vs (λ (m : Bor SparseMatrixView). m.now) mask lent e x.matrix.nrows x.matrix.ncols masked in
      record {
        assembled = matrix_assembled c x at done;
        mask_assembled = matrix_mask_assembled mask lent e masks;
        mask_rows = if_both-0 _ _ lent same;
        mask_columns = if_both-1 _ _ lent same;
        accumulates = accumulates;
      }

  pub vector_output : (w : VectorId) (x : SparseVectorView) → object_at vs w.0 ≡ Some x → IsAssembledVector vs w.0 → (mask : Option VectorId) (lent : Option (Bor SparseVectorView))
      → option_map (λ m. Some m.now) lent ≡ option_map (λ x. object_at vs x.0) mask → AreAllOf ms vs (vector_mask mask) → IsVectorMask (stored ms vs) mask x.vector.size
      → (accum : Option BinaryOp) → AccumulatesIn x.vector.domain accum → IsVectorOutput x lent accum
  vector_output w x at done mask lent e masks masked accum accumulates = record {
    assembled = vector_assembled w x at done;
    mask_assembled = vector_mask_assembled mask lent e masks;
    mask_size = lent_mask_is ms vs (λ (m : Bor SparseVectorView). m.now) mask lent e x.vector.size masked;
    accumulates = accumulates;
  }

  -- what the operands of an element-wise operation are, which is not refused
  module _ {tran tran1 : Bool} (c : MatrixId) (mask : Option MatrixId) (accum : Option BinaryOp) (op : BinaryOp) (a b : MatrixId) (tests : MatrixTests (shapes_of (stored ms vs)) tran tran1 c mask accum op a b)
      (done : AreAllOf ms vs (object.Matrix c ∷ object.Matrix a ∷ object.Matrix b ∷ matrix_mask mask)) (x : SparseMatrixView) (at_output : object_at ms c.0 ≡ Some x) where
    pub ewise_matrix_output : (lent : Option (Bor SparseMatrixView)) → option_map (λ m. Some m.now) lent ≡ option_map (λ x. object_at ms x.0) mask → IsMatrixOutput x lent accum
    ewise_matrix_output lent e =
        let are = matrix_are ms vs c mask accum op a b tests x at_output in
        matrix_output c x at_output done.0 mask lent e done.1.1.1 are.masked accum are.accumulates

    pub ewise_matrix_first : (y : SparseMatrixView) → object_at ms a.0 ≡ Some y → IsMatrixInput tran x.matrix.domain x.matrix.nrows x.matrix.ncols y
    ewise_matrix_first y at = turned_input a y at tran x.matrix.domain x.matrix.nrows x.matrix.ncols (matrix_are ms vs c mask accum op a b tests x at_output).first done.1.0

    pub ewise_matrix_second : (z : SparseMatrixView) → object_at ms b.0 ≡ Some z → IsMatrixInput tran1 x.matrix.domain x.matrix.nrows x.matrix.ncols z
    ewise_matrix_second z at = turned_input b z at tran1 x.matrix.domain x.matrix.nrows x.matrix.ncols (matrix_are ms vs c mask accum op a b tests x at_output).second done.1.1.0

  module _ (w : VectorId) (mask : Option VectorId) (accum : Option BinaryOp) (op : BinaryOp) (u v : VectorId) (tests : VectorTests (shapes_of (stored ms vs)) w mask accum op u v)
      (done : AreAllOf ms vs (object.Vector w ∷ object.Vector u ∷ object.Vector v ∷ vector_mask mask)) (x : SparseVectorView) (at_output : object_at vs w.0 ≡ Some x) where
    pub ewise_vector_output : (lent : Option (Bor SparseVectorView)) → option_map (λ m. Some m.now) lent ≡ option_map (λ x. object_at vs x.0) mask → IsVectorOutput x lent accum
    ewise_vector_output lent e =
        let are = vector_are ms vs w mask accum op u v tests x at_output in
        vector_output w x at_output done.0 mask lent e done.1.1.1 are.masked accum are.accumulates

    pub ewise_vector_first : (y : SparseVectorView) → object_at vs u.0 ≡ Some y → IsVectorInput x.vector.domain x.vector.size y
    ewise_vector_first y at = vector_input u y at x.vector.domain x.vector.size (vector_are ms vs w mask accum op u v tests x at_output).first done.1.0

    pub ewise_vector_second : (z : SparseVectorView) → object_at vs v.0 ≡ Some z → IsVectorInput x.vector.domain x.vector.size z
    ewise_vector_second z at = vector_input v z at x.vector.domain x.vector.size (vector_are ms vs w mask accum op u v tests x at_output).second done.1.1.0
