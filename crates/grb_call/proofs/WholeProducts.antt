-- What a product or a reduction of rows computes is whole.
use Rattle.std.proofs.Common.{Bool, sym, subst, ◌∙◌, Option, IfSome}
use Rattle.grb_core.specs.declared.domain.Domain.{Domain}
use Rattle.grb_core.specs.declared.operator.BinaryOp.{BinaryOp}
use Rattle.grb_core.specs.declared.monoid.Monoid.{Monoid}
use Rattle.grb_core.specs.Contents.{Vector, Matrix, IsVector, IsMatrix}
use Rattle.grb_core.specs.Entries.{MatrixEntries}
use Rattle.grb_core.specs.Semiring.{SemiringParts}
use Rattle.grb_core.specs.Results.{mxv_of, mxm_of, reduce_rows_of, turned, vxm_of}
use Rattle.grb_core.specs.ResultLaws.{AreVectorEntries, AreMatrixEntries}
use Rattle.grb_core.proofs.ResultLaws.{mxv_makes_entries, mxm_makes_entries, reduce_rows_makes_entries, vxm_makes_entries}
use Rattle.grb_call.specs.declared.ids.MatrixId.{MatrixId}
use Rattle.grb_call.specs.declared.ids.VectorId.{VectorId}
use Rattle.grb_call.specs.Store.{Store, matrix_at, vector_at, matrix_entries, vector_entries}
use Rattle.grb_call.proofs.Products.{MxvOperands, MxmOperands, ReduceRowsOperands, VxmOperands}
use Rattle.grb_call.proofs.WholeOutputs.{input_turned-entries, input_vector-entries}

pub mxv-entries : (s : Store) (x : Vector) (tran : Bool) (mask : Option VectorId) (accum : Option BinaryOp) (semiring : SemiringParts) (a : MatrixId) (u : VectorId) → IfSome (matrix_at s a) IsMatrix → IfSome (vector_at s u) IsVector →
    MxvOperands s x tran mask accum semiring a u → AreVectorEntries x.size x.domain (mxv_of semiring (turned tran (matrix_entries s a)) (vector_entries s u))
mxv-entries s x tran mask accum semiring a u whole_a whole_u are =
    let m : MatrixEntries = turned tran (matrix_entries s a) in
    let y = vector_entries s u in
    let first = input_turned-entries s tran a x.domain x.size are.inner whole_a are.matrix in
    let second = input_vector-entries s u x.domain are.inner whole_u are.vector in
    subst (λ (domain : Domain). AreVectorEntries x.size domain (mxv_of semiring m y)) are.multiplies
    (mxv_makes_entries x.size are.inner semiring m y (are.adds ∙ sym are.multiplies)
    (subst (λ (domain : Domain). AreMatrixEntries x.size are.inner domain m) (sym are.multiplies) first)
    (subst (λ (domain : Domain). AreVectorEntries are.inner domain y) (sym are.multiplies) second))

pub vxm-entries : (s : Store) (x : Vector) (tran1 : Bool) (mask : Option VectorId) (accum : Option BinaryOp) (semiring : SemiringParts) (u : VectorId) (a : MatrixId) → IfSome (vector_at s u) IsVector → IfSome (matrix_at s a) IsMatrix →
    VxmOperands s x tran1 mask accum semiring u a → AreVectorEntries x.size x.domain (vxm_of semiring (vector_entries s u) (turned tran1 (matrix_entries s a)))
vxm-entries s x tran1 mask accum semiring u a whole_u whole_a are =
    let y = vector_entries s u in
    let m : MatrixEntries = turned tran1 (matrix_entries s a) in
    let first = input_vector-entries s u x.domain are.inner whole_u are.vector in
    let second = input_turned-entries s tran1 a x.domain are.inner x.size whole_a are.matrix in
    subst (λ (domain : Domain). AreVectorEntries x.size domain (vxm_of semiring y m)) are.multiplies
    (vxm_makes_entries are.inner x.size semiring y m (are.adds ∙ sym are.multiplies)
    (subst (λ (domain : Domain). AreVectorEntries are.inner domain y) (sym are.multiplies) first)
    (subst (λ (domain : Domain). AreMatrixEntries are.inner x.size domain m) (sym are.multiplies) second))

pub mxm-entries : (s : Store) (m : Matrix) (tran tran1 : Bool) (mask : Option MatrixId) (accum : Option BinaryOp) (semiring : SemiringParts) (a b : MatrixId) → IfSome (matrix_at s a) IsMatrix → IfSome (matrix_at s b) IsMatrix →
    MxmOperands s m tran tran1 mask accum semiring a b → AreMatrixEntries m.nrows m.ncols m.domain (mxm_of semiring (turned tran (matrix_entries s a)) (turned tran1 (matrix_entries s b)))
mxm-entries s m tran tran1 mask accum semiring a b whole_a whole_b are =
    let x : MatrixEntries = turned tran (matrix_entries s a) in
    let y : MatrixEntries = turned tran1 (matrix_entries s b) in
    let first = input_turned-entries s tran a m.domain m.nrows are.inner whole_a are.first in
    let second = input_turned-entries s tran1 b m.domain are.inner m.ncols whole_b are.second in
    subst (λ (domain : Domain). AreMatrixEntries m.nrows m.ncols domain (mxm_of semiring x y)) are.multiplies
    (mxm_makes_entries m.nrows are.inner m.ncols semiring x y (are.adds ∙ sym are.multiplies)
    (subst (λ (domain : Domain). AreMatrixEntries m.nrows are.inner domain x) (sym are.multiplies) first)
    (subst (λ (domain : Domain). AreMatrixEntries are.inner m.ncols domain y) (sym are.multiplies) second))

pub reduce_rows-entries : (s : Store) (x : Vector) (tran : Bool) (mask : Option VectorId) (accum : Option BinaryOp) (monoid : Monoid) (a : MatrixId) → IfSome (matrix_at s a) IsMatrix →
    ReduceRowsOperands s x tran mask accum monoid a → AreVectorEntries x.size x.domain (reduce_rows_of monoid (turned tran (matrix_entries s a)))
reduce_rows-entries s x tran mask accum monoid a whole_a are =
    let m : MatrixEntries = turned tran (matrix_entries s a) in
    let rows = input_turned-entries s tran a x.domain x.size are.inner whole_a are.matrix in
    subst (λ (domain : Domain). AreVectorEntries x.size domain (reduce_rows_of monoid m)) are.folds
    (reduce_rows_makes_entries x.size are.inner monoid m (subst (λ (domain : Domain). AreMatrixEntries x.size are.inner domain m) (sym are.folds) rows))
