-- What an operation writes into a whole output is whole.
use Rattle.std.proofs.Common.{◌≡◌, ℕ, Bool, true, false, [], sym, ap, subst, Option, Some, IfSome}
use Rattle.std.specs.Option.{option_map_or}
use Rattle.std.specs.Ordering.{nat_cmp}
use Rattle.std.specs.FinMap.{nat_cmp-IsAntisymmetric}
use Rattle.std.specs.Cmp.{nat_cmp_total}
use Rattle.grb_core.specs.declared.domain.Domain.{Domain}
use Rattle.grb_core.specs.declared.operator.BinaryOp.{BinaryOp}
use Rattle.grb_core.specs.Entries.{cell_cmp, MatrixEntries, VectorEntries}
use Rattle.grb_core.specs.Contents.{Vector, Matrix, IsVector, IsMatrix}
use Rattle.grb_core.specs.Mask.{is_inside}
use Rattle.grb_core.specs.Written.{AccumulatesIn}
use Rattle.grb_core.specs.Results.{ewise_add, ewise_mult, turned}
use Rattle.grb_core.specs.ResultLaws.{IsBelow, IsCellBelow, AreVectorEntries, AreMatrixEntries}
use Rattle.grb_core.proofs.Maps.{cell_cmp_total, cell_cmp-IsAntisymmetric}
use Rattle.grb_core.proofs.ResultLaws.{ewise_makes_entries, transposed_makes_entries, written_makes_entries}
use Rattle.grb_core.specs.declared.descriptor.Descriptor.{Descriptor}
use Rattle.grb_call.specs.declared.ids.MatrixId.{MatrixId}
use Rattle.grb_call.specs.declared.ids.VectorId.{VectorId}
use Rattle.grb_core.specs.Written.{written_matrix, written_vector}
use Rattle.grb_call.specs.Store.{Store, matrix_at, vector_at, matrix_entries, vector_entries}
use Rattle.grb_call.proofs.Operations.{IsMatrixAt, IsTurnedAt, IsVectorAt, EwiseMatrices, EwiseVectors}

-- what is whole where it is there
of_some : {X : Type 0} (P : X → Type 0) (o : Option X) (x : X) → o ≡ Some x → IfSome o P → P x
of_some {X = X} P o x at h = subst (λ (y : Option X). IfSome y P) at h

matrix_entries_are : (m : Matrix) → IsMatrix m → AreMatrixEntries m.nrows m.ncols m.domain m.entries
matrix_entries_are m is = record { ordered = is.ordered; within = is.within; of_domain = is.of_domain }

vector_entries_are : (x : Vector) → IsVector x → AreVectorEntries x.size x.domain x.entries
vector_entries_are x is = record { ordered = is.ordered; within = is.within; of_domain = is.of_domain }

pub written_matrix_is : (mask : Option MatrixEntries) (accum : Option BinaryOp) (d : Descriptor) (computed : MatrixEntries) (m : Matrix) → IsMatrix m → AccumulatesIn m.domain accum →
    AreMatrixEntries m.nrows m.ncols m.domain computed → IsMatrix (written_matrix mask accum d computed m)
written_matrix_is mask accum d computed m is accumulates made =
    let inside = is_inside cell_cmp d.structure d.comp mask in
    let new = written_makes_entries cell_cmp cell_cmp_total cell_cmp-IsAntisymmetric (IsCellBelow m.nrows m.ncols) m.domain inside d.replace accum m.entries computed accumulates (matrix_entries_are m is) made in
    record { nrows = is.nrows; ncols = is.ncols; ordered = new.ordered; within = new.within; of_domain = new.of_domain }

pub written_vector_is : (mask : Option VectorEntries) (accum : Option BinaryOp) (d : Descriptor) (computed : VectorEntries) (x : Vector) → IsVector x → AccumulatesIn x.domain accum →
    AreVectorEntries x.size x.domain computed → IsVector (written_vector mask accum d computed x)
written_vector_is mask accum d computed x is accumulates made =
    let inside = is_inside nat_cmp d.structure d.comp mask in
    let new = written_makes_entries nat_cmp nat_cmp_total nat_cmp-IsAntisymmetric (IsBelow x.size) x.domain inside d.replace accum x.entries computed accumulates (vector_entries_are x is) made in
    record { size = is.size; ordered = new.ordered; within = new.within; of_domain = new.of_domain }

-- the entries of an operand
pub input_matrix-entries : (s : Store) (a : MatrixId) (domain : Domain) (nrows ncols : ℕ) → IfSome (matrix_at s a) IsMatrix → IsMatrixAt s a domain nrows ncols → AreMatrixEntries nrows ncols domain (matrix_entries s a)
input_matrix-entries s a domain nrows ncols whole is =
    let m = is.matrix in
    let stored : matrix_entries s a ≡ m.entries = ap (λ (o : Option Matrix). option_map_or (λ x. x.entries) o []) is.at in
    subst (λ (es : MatrixEntries). AreMatrixEntries nrows ncols domain es) (sym stored)
    (subst (λ (d : Domain). AreMatrixEntries nrows ncols d m.entries) is.same_domain
    (subst (λ (n : ℕ). AreMatrixEntries n ncols m.domain m.entries) is.same_nrows
    (subst (λ (n : ℕ). AreMatrixEntries m.nrows n m.domain m.entries) is.same_ncols
    (matrix_entries_are m (of_some IsMatrix (matrix_at s a) m is.at whole)))))

pub input_vector-entries : (s : Store) (v : VectorId) (domain : Domain) (size : ℕ) → IfSome (vector_at s v) IsVector → IsVectorAt s v domain size → AreVectorEntries size domain (vector_entries s v)
input_vector-entries s v domain size whole is =
    let x = is.vector in
    let stored : vector_entries s v ≡ x.entries = ap (λ (o : Option Vector). option_map_or (λ y. y.entries) o []) is.at in
    subst (λ (es : VectorEntries). AreVectorEntries size domain es) (sym stored)
    (subst (λ (d : Domain). AreVectorEntries size d x.entries) is.same_domain
    (subst (λ (n : ℕ). AreVectorEntries n x.domain x.entries) is.same_size
    (vector_entries_are x (of_some IsVector (vector_at s v) x is.at whole))))

-- the entries of an input, as it is turned
pub input_turned-entries : (s : Store) (tran : Bool) (a : MatrixId) (domain : Domain) (nrows ncols : ℕ) → IfSome (matrix_at s a) IsMatrix → IsTurnedAt s tran a domain nrows ncols →
    AreMatrixEntries nrows ncols domain (turned tran (matrix_entries s a))
input_turned-entries s true a domain nrows ncols whole is = transposed_makes_entries ncols nrows domain (matrix_entries s a) (input_matrix-entries s a domain ncols nrows whole is)
input_turned-entries s false a domain nrows ncols whole is = input_matrix-entries s a domain nrows ncols whole is

-- the results of the element-wise operations
pub ewise_matrices-entries : (s : Store) (m : Matrix) (tran tran1 : Bool) (mask : Option MatrixId) (accum : Option BinaryOp) (op : BinaryOp) (a b : MatrixId) → IfSome (matrix_at s a) IsMatrix → IfSome (matrix_at s b) IsMatrix →
    EwiseMatrices s m tran tran1 mask accum op a b →
    AreMatrixEntries m.nrows m.ncols m.domain (ewise_add cell_cmp op (turned tran (matrix_entries s a)) (turned tran1 (matrix_entries s b)))
    × AreMatrixEntries m.nrows m.ncols m.domain (ewise_mult cell_cmp op (turned tran (matrix_entries s a)) (turned tran1 (matrix_entries s b)))
ewise_matrices-entries s m tran tran1 mask accum op a b whole_a whole_b are =
    let x : MatrixEntries = turned tran (matrix_entries s a) in
    let y : MatrixEntries = turned tran1 (matrix_entries s b) in
    let first = input_turned-entries s tran a m.domain m.nrows m.ncols whole_a are.first in
    let second = input_turned-entries s tran1 b m.domain m.nrows m.ncols whole_b are.second in
    let Of : Domain → MatrixEntries → Type 0 = λ domain es. AreMatrixEntries m.nrows m.ncols domain es in
    subst (λ (domain : Domain). Of domain (ewise_add cell_cmp op x y) × Of domain (ewise_mult cell_cmp op x y)) are.computes
    (ewise_makes_entries cell_cmp cell_cmp_total cell_cmp-IsAntisymmetric (IsCellBelow m.nrows m.ncols) op x y
    (subst (λ (domain : Domain). Of domain x) (sym are.computes) first) (subst (λ (domain : Domain). Of domain y) (sym are.computes) second))

pub ewise_vectors-entries : (s : Store) (x : Vector) (mask : Option VectorId) (accum : Option BinaryOp) (op : BinaryOp) (u v : VectorId) → IfSome (vector_at s u) IsVector → IfSome (vector_at s v) IsVector →
    EwiseVectors s x mask accum op u v →
    AreVectorEntries x.size x.domain (ewise_add nat_cmp op (vector_entries s u) (vector_entries s v)) × AreVectorEntries x.size x.domain (ewise_mult nat_cmp op (vector_entries s u) (vector_entries s v))
ewise_vectors-entries s x mask accum op u v whole_u whole_v are =
    let y = vector_entries s u in
    let z = vector_entries s v in
    let first = input_vector-entries s u x.domain x.size whole_u are.first in
    let second = input_vector-entries s v x.domain x.size whole_v are.second in
    let Of : Domain → VectorEntries → Type 0 = λ domain es. AreVectorEntries x.size domain es in
    subst (λ (domain : Domain). Of domain (ewise_add nat_cmp op y z) × Of domain (ewise_mult nat_cmp op y z)) are.computes
    (ewise_makes_entries nat_cmp nat_cmp_total nat_cmp-IsAntisymmetric (IsBelow x.size) op y z
    (subst (λ (domain : Domain). Of domain y) (sym are.computes) first) (subst (λ (domain : Domain). Of domain z) (sym are.computes) second))
