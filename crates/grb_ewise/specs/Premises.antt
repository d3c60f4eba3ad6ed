-- believed: What an operation asks of the objects that it is lent (own): no change waits in any of them, all are of the domain of the
-- output, the mask aside, and their dimensions fit.
use Rattle.std.specs.Prelude.{◌≡◌, ℕ, Bool, true, if◌then◌else◌, List, All, Option, IfSome}
use Rattle.std.specs.Borrow.{Bor}
use Rattle.std.specs.declared.cmp.Ordering.{Ordering}
use Rattle.grb_core.specs.declared.domain.Domain.{Domain}
use Rattle.grb_core.specs.declared.operator.BinaryOp.{BinaryOp}
use Rattle.grb_core.specs.declared.value.Value.{Value}
use Rattle.grb_core.specs.Contents.{Matrix}
use Rattle.grb_core.specs.Mask.{is_inside}
use Rattle.grb_core.specs.Written.{AccumulatesIn}
use Rattle.grb_core.specs.declared.descriptor.Descriptor.{Descriptor}
use Rattle.grb_sparse.specs.Matrix.{SparseMatrixView}
use Rattle.grb_sparse.specs.Vector.{SparseVectorView}

-- an output, a mask of its dimensions, and an accumulator of its domain
pub record IsMatrixOutput (output : SparseMatrixView) (mask : Option (Bor SparseMatrixView)) (accum : Option BinaryOp) : Type 0 where
  pub assembled : output.assembled ≡ true
  pub mask_assembled : IfSome mask (λ m. m.now.assembled ≡ true)
  pub mask_rows : IfSome mask (λ m. m.now.matrix.nrows ≡ output.matrix.nrows)
  pub mask_columns : IfSome mask (λ m. m.now.matrix.ncols ≡ output.matrix.ncols)
  pub accumulates : AccumulatesIn output.matrix.domain accum

pub record IsVectorOutput (output : SparseVectorView) (mask : Option (Bor SparseVectorView)) (accum : Option BinaryOp) : Type 0 where
  pub assembled : output.assembled ≡ true
  pub mask_assembled : IfSome mask (λ m. m.now.assembled ≡ true)
  pub mask_size : IfSome mask (λ m. m.now.vector.size ≡ output.vector.size)
  pub accumulates : AccumulatesIn output.vector.domain accum

-- the rows and the columns of a matrix that is read transposed, or not
abbrev pub rows_read : Bool → Matrix → ℕ
rows_read tran a = if tran then a.ncols else a.nrows

abbrev pub columns_read : Bool → Matrix → ℕ
columns_read tran a = if tran then a.nrows else a.ncols

-- an input of this domain, with so many rows and columns as it is read
pub record IsMatrixInput (tran : Bool) (of : Domain) (nrows ncols : ℕ) (m : SparseMatrixView) : Type 0 where
  pub assembled : m.assembled ≡ true
  pub domain : m.matrix.domain ≡ of
  pub rows : rows_read tran m.matrix ≡ nrows
  pub columns : columns_read tran m.matrix ≡ ncols

-- an input of this domain and of this size
pub record IsVectorInput (of : Domain) (size : ℕ) (v : SparseVectorView) : Type 0 where
  pub assembled : v.assembled ≡ true
  pub domain : v.vector.domain ≡ of
  pub same_size : v.vector.size ≡ size

module _ {Place : Type 0} (R : Place → Place → Ordering) where
  -- each of these entries is inside of what the mask stores, if there is one, as the descriptor reads it
  abbrev pub LieInside : Option (List (Place × Value)) → Descriptor → List (Place × Value) → Type 0
  LieInside mask d entries = All (λ e. is_inside R d.structure d.comp mask e.0 ≡ true) entries
