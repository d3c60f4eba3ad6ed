-- believed: What a user relies on of products and reductions, over all matrices. `laws.rt` promises each.
use Rattle.std.specs.Prelude.{◌≡◌, ℕ, zero, suc, ◌+◌, [], ◌∷◌, map, IsTrue, All}
use Rattle.std.specs.Ordering.{nat_cmp}
use Rattle.std.specs.FinMap.{is_sorted}
use Rattle.grb_core.specs.declared.value.Value.{Value}
use Rattle.grb_core.specs.declared.operator.BinaryOp.{BinaryOp}
use Rattle.grb_core.specs.declared.operator.BinaryOp.TheVariants as op
use Rattle.grb_core.specs.declared.monoid.Monoid.{Monoid}
use Rattle.grb_core.specs.declared.monoid.Monoid.TheVariants as monoid
use Rattle.grb_core.specs.Value.{IsValueOf}
use Rattle.grb_core.specs.Operator.{op_domain, value_of_op}
use Rattle.grb_core.specs.Monoid.{monoid_op, monoid_domain, identity_of}
use Rattle.grb_core.specs.Semiring.{SemiringParts}
use Rattle.grb_core.specs.Entries.{VectorEntries, MatrixEntries, cell_cmp}
use Rattle.grb_core.specs.ResultLaws.{AreMatrixEntries}
use Rattle.grb_core.specs.Results.{mxv_of, mxm_of, reduce_rows_of, reduce_of}

-- the value changes no other under the operator, on either side
pub record IsOne (op : BinaryOp) (one : Value) : Type 0 where
  pub of_domain : IsValueOf (op_domain op) one
  pub from_left : (v : Value) → IsValueOf (op_domain op) v → value_of_op op one v ≡ v
  pub from_right : (v : Value) → IsValueOf (op_domain op) v → value_of_op op v one ≡ v

-- the value at the cells of the diagonal, from one index on
abbrev pub diagonal_from : Value → ℕ → ℕ → MatrixEntries
diagonal_from v zero k = []
diagonal_from v (suc n) k = ((k, k), v) ∷ diagonal_from v n (k + 1)

-- a square matrix with a one at each cell of its diagonal, and nothing else
abbrev pub identity_matrix : Value → ℕ → MatrixEntries
identity_matrix one size = diagonal_from one size 0

-- a product with an identity matrix, on either side, is the other matrix
abbrev pub IdentityChangesNothing : Type 0
IdentityChangesNothing =
    (nrows ncols : ℕ) (s : SemiringParts) (one : Value) (a : MatrixEntries) → monoid_domain s.monoid ≡ op_domain s.op → IsOne s.op one
    → AreMatrixEntries nrows ncols (op_domain s.op) a
    → (mxm_of s (identity_matrix one nrows) a ≡ a) × (mxm_of s a (identity_matrix one ncols) ≡ a)

-- an identity matrix is one: in order, within its size, and of the domain
abbrev pub IdentityIsWhole : Type 0
IdentityIsWhole =
    (size : ℕ) (op : BinaryOp) (one : Value) → IsOne op one → AreMatrixEntries size size (op_domain op) (identity_matrix one size)

-- the identity of a monoid is a one of its operator
abbrev pub MonoidsHaveOnes : Type 0
MonoidsHaveOnes = (m : Monoid) → IsOne (monoid_op m) (identity_of m)

-- on the values at which `Is` holds, times is associative, and distributes over plus on both sides. No zero is asked for: what is not
-- stored stands for it
pub record IsDistributive {V : Type 0} (Is : V → Type 0) (plus times : V → V → V) : Type 0 where
  pub associative : (x y z : V) → Is x → Is y → Is z → times (times x y) z ≡ times x (times y z)
  pub from_left : (x y z : V) → Is x → Is y → Is z → times x (plus y z) ≡ plus (times x y) (times x z)
  pub from_right : (x y z : V) → Is x → Is y → Is z → times (plus x y) z ≡ plus (times x z) (times y z)

-- the semiring has one domain, and is distributive on it
abbrev pub Distributes : SemiringParts → Type 0
Distributes s =
    (monoid_domain s.monoid ≡ op_domain s.op) × IsDistributive (IsValueOf (op_domain s.op)) (value_of_op (monoid_op s.monoid)) (value_of_op s.op)

-- each value is of the semiring's domain
abbrev pub AreValuesFor : SemiringParts → MatrixEntries → Type 0
AreValuesFor s a = All (λ e. IsValueOf (op_domain s.op) e.1) a

-- of three matrices the first two may be multiplied first, or the last two
abbrev pub ProductsGroup : SemiringParts → Type 0
ProductsGroup s =
    (a b c : MatrixEntries) → AreValuesFor s a → AreValuesFor s b → AreValuesFor s c → mxm_of s (mxm_of s a b) c ≡ mxm_of s a (mxm_of s b c)

-- by each semiring that distributes
abbrev pub DistributiveProductsGroup : Type 0
DistributiveProductsGroup = (s : SemiringParts) → Distributes s → ProductsGroup s

-- the semiring of these two parts
abbrev pub semiring_of : Monoid → BinaryOp → SemiringParts
semiring_of m o = record { monoid = m; op = o }

-- by these of the standard's predefined semirings
pub record PredefinedProductsGroup : Type 0 where
  pub plus_times : ProductsGroup (semiring_of monoid.Plus op.Times)
  pub min_max : ProductsGroup (semiring_of monoid.Min op.Max)
  pub max_min : ProductsGroup (semiring_of monoid.Max op.Min)
  pub min_first : ProductsGroup (semiring_of monoid.Min op.First)
  pub min_second : ProductsGroup (semiring_of monoid.Min op.Second)
  pub max_first : ProductsGroup (semiring_of monoid.Max op.First)
  pub max_second : ProductsGroup (semiring_of monoid.Max op.Second)
  pub lor_land : ProductsGroup (semiring_of monoid.Lor op.Land)
  pub land_lor : ProductsGroup (semiring_of monoid.Land op.Lor)
  pub lxor_land : ProductsGroup (semiring_of monoid.Lxor op.Land)
  pub lxnor_lor : ProductsGroup (semiring_of monoid.Lxnor op.Lor)

-- not by min.plus: a sum modulo 2^64 may be less than what is summed, so plus does not distribute over min
abbrev pub MinPlusDoesNotGroup : Type 0
MinPlusDoesNotGroup = ProductsGroup (semiring_of monoid.Min op.Plus) → ⊥

-- a vector as a matrix with one column
abbrev pub as_column : VectorEntries → MatrixEntries
as_column u = map (λ e. ((e.0, 0), e.1)) u

-- the product with a vector is that with a matrix of one column
abbrev pub MxvIsMxm : Type 0
MxvIsMxm =
    (s : SemiringParts) (a : MatrixEntries) (u : VectorEntries) → IsTrue (is_sorted cell_cmp a) → IsTrue (is_sorted nat_cmp u) → mxm_of s a (as_column u) ≡ as_column (mxv_of s a u)

-- the total of a matrix is that of its row reductions
abbrev pub TotalOfRows : Type 0
TotalOfRows =
    (m : Monoid) (a : MatrixEntries) → IsTrue (is_sorted cell_cmp a) → All (λ e. IsValueOf (monoid_domain m) e.1) a → reduce_of m (reduce_rows_of m a) ≡ reduce_of m a
