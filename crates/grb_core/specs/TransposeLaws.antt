-- believed: What a user relies on of transposed matrices and of vxm, over all entries. `laws.rt` promises each.
use Rattle.std.specs.Prelude.{◌≡◌, ℕ, IsTrue, All, is_some}
use Rattle.std.specs.Ordering.{nat_cmp}
use Rattle.std.specs.FinMap.{find, is_sorted}
use Rattle.grb_core.specs.declared.domain.Domain.{Domain}
use Rattle.grb_core.specs.declared.domain.Domain.TheVariants as domain
use Rattle.grb_core.specs.declared.monoid.Monoid.{Monoid}
use Rattle.grb_core.specs.declared.operator.BinaryOp.{BinaryOp}
use Rattle.grb_core.specs.declared.operator.BinaryOp.TheVariants as op
use Rattle.grb_core.specs.Value.{IsValueOf}
use Rattle.grb_core.specs.Operator.{op_domain}
use Rattle.grb_core.specs.Monoid.{monoid_domain}
use Rattle.grb_core.specs.Entries.{cell_cmp, VectorEntries, MatrixEntries}
use Rattle.grb_core.specs.Semiring.{SemiringParts}
use Rattle.grb_core.specs.Results.{column_of, each_row, mxm_of, mxv_of, product_of, reduce_rows_of, row_of, transposed, vxm_of}
use Rattle.grb_core.specs.ResultLaws.{AreMatrixEntries, AreVectorEntries, Commutes}

-- the transposed stores at (j, i) what the matrix stores at (i, j)
abbrev pub TransposedStores : Type 0
TransposedStores = (a : MatrixEntries) (i j : ℕ) → find cell_cmp (j, i) (transposed a) ≡ find cell_cmp (i, j) a

-- the transposed of the transposed is the matrix
abbrev pub TransposedTwice : Type 0
TransposedTwice = (a : MatrixEntries) → IsTrue (is_sorted cell_cmp a) → transposed (transposed a) ≡ a

-- row j of the transposed is column j of the matrix, and its column i is row i
abbrev pub TransposedRows : Type 0
TransposedRows = (a : MatrixEntries) (j : ℕ) → IsTrue (is_sorted cell_cmp a) → row_of j (transposed a) ≡ column_of j a

abbrev pub TransposedColumns : Type 0
TransposedColumns = (a : MatrixEntries) (i : ℕ) → IsTrue (is_sorted cell_cmp a) → column_of i (transposed a) ≡ row_of i a

-- vxm is the product of the transposed and the vector, with the arguments of multiply exchanged
abbrev pub VxmIsMxvExchanged : Type 0
VxmIsMxvExchanged =
    (s : SemiringParts) (u : VectorEntries) (a : MatrixEntries) → IsTrue (is_sorted cell_cmp a) → vxm_of s u a ≡ each_row (λ x. product_of s u x) (transposed a)

-- so it is mxv of the transposed where multiply commutes
abbrev pub VxmIsMxv : Type 0
VxmIsMxv =
    (s : SemiringParts) (u : VectorEntries) (a : MatrixEntries) → IsTrue (is_sorted cell_cmp a) → Commutes s.op → All (λ e. IsValueOf (op_domain s.op) e.1) u
    → All (λ e. IsValueOf (op_domain s.op) e.1) a → vxm_of s u a ≡ mxv_of s (transposed a) u

-- a transposed matrix is in order, within the exchanged dimensions, and of its domain
abbrev pub TransposedMakesEntries : Type 0
TransposedMakesEntries = (nrows ncols : ℕ) (domain : Domain) (a : MatrixEntries) → AreMatrixEntries nrows ncols domain a → AreMatrixEntries ncols nrows domain (transposed a)

-- and a vxm is so, within the matrix's columns
abbrev pub VxmMakesEntries : Type 0
VxmMakesEntries =
    (nrows ncols : ℕ) (s : SemiringParts) (u : VectorEntries) (a : MatrixEntries) → monoid_domain s.monoid ≡ op_domain s.op
    → AreVectorEntries nrows (op_domain s.op) u → AreMatrixEntries nrows ncols (op_domain s.op) a → AreVectorEntries ncols (op_domain s.op) (vxm_of s u a)

-- the transposed of a product is the product of the transposed in the other order, where multiply commutes
abbrev pub TransposedProduct : Type 0
TransposedProduct =
    (s : SemiringParts) (a b : MatrixEntries) → IsTrue (is_sorted cell_cmp a) → IsTrue (is_sorted cell_cmp b) → Commutes s.op → All (λ e. IsValueOf (op_domain s.op) e.1) a
    → All (λ e. IsValueOf (op_domain s.op) e.1) b → transposed (mxm_of s a b) ≡ mxm_of s (transposed b) (transposed a)

-- the operator of a domain that gives its second argument
abbrev pub second_of : Domain → BinaryOp
second_of domain.Bool = op.SecondBool
second_of domain.Uint64 = op.Second

-- the vector stores something at each row of the matrix that stores something
abbrev pub StoresRowsOf : VectorEntries → MatrixEntries → Type 0
StoresRowsOf u a = (i j : ℕ) → IsTrue (is_some (find cell_cmp (i, j) a)) → IsTrue (is_some (find nat_cmp i u))

-- a reduction of the columns is a vxm by a multiply that gives its second argument, with a vector that stores something at each row
abbrev pub ReducedColumns : Type 0
ReducedColumns =
    (m : Monoid) (u : VectorEntries) (a : MatrixEntries) → IsTrue (is_sorted cell_cmp a) → StoresRowsOf u a → All (λ e. IsValueOf (monoid_domain m) e.1) u
    → All (λ e. IsValueOf (monoid_domain m) e.1) a → reduce_rows_of m (transposed a) ≡ vxm_of (record { monoid = m; op = second_of (monoid_domain m) }) u a
