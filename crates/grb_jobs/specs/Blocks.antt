-- inside: no public contract above names it. A product of two matrices that is made by blocks of rows, its blocks, and when it may be made
-- (own).
use Rattle.std.specs.Prelude.{◌≡◌, ◌≤◌, ℕ, Bool, true, false, Option, IfSome}
use Rattle.grb_core.specs.declared.domain.Domain.{Domain}
use Rattle.grb_core.specs.Entries.{MatrixEntries}
use Rattle.grb_core.specs.Contents.{Matrix}
use Rattle.grb_core.specs.Operator.{op_domain}
use Rattle.grb_core.specs.Semiring.{SemiringParts}
use Rattle.grb_ewise.specs.Premises.{IsMatrixInput}
use Rattle.grb_mxm.specs.Rows.{rows_between, selected_product}
use Rattle.grb_sparse.specs.Matrix.{SparseMatrixView}

-- what a product is made of: a semiring, a mask that bounds it, if there is one, and two matrices; and the domain and dimensions of what is
-- made
pub record Product : Type 0 where
  pub semiring : SemiringParts
  pub structure : Bool
  pub mask : Option MatrixEntries
  pub domain : Domain
  pub nrows : ℕ
  pub ncols : ℕ
  pub first : MatrixEntries
  pub second : MatrixEntries

-- the entries that are made
abbrev pub made_by : Product → MatrixEntries
made_by p = selected_product p.semiring p.structure p.mask p.first p.second

-- the matrix of all of them
abbrev pub whole_of : Product → Matrix
whole_of p = record { domain = p.domain; nrows = p.nrows; ncols = p.ncols; entries = made_by p }

-- the matrix, of the same dimensions, of those in the rows from one up to another
abbrev pub block_of : Product → ℕ → ℕ → Matrix
block_of p from upto = record { domain = p.domain; nrows = p.nrows; ncols = p.ncols; entries = rows_between from upto (made_by p) }

-- the matrix has these rows of the product
pub record IsBlock (p : Product) (from upto : ℕ) (m : SparseMatrixView) : Type 0 where
  pub rises : from ≤ upto
  pub within : upto ≤ p.nrows
  pub matrix : m.matrix ≡ block_of p from upto
  pub assembled : m.assembled ≡ true

-- the matrices fit together, are of the semiring's domain, and no change waits in any
pub record IsReady (semiring : SemiringParts) (mask : Option SparseMatrixView) (first second : SparseMatrixView) : Type 0 where
  pub first_fits : IsMatrixInput false (op_domain semiring.op) first.matrix.nrows second.matrix.nrows first
  pub second_fits : IsMatrixInput false (op_domain semiring.op) second.matrix.nrows second.matrix.ncols second
  pub mask_assembled : IfSome mask (λ m. m.assembled ≡ true)
  pub mask_columns : IfSome mask (λ m. m.matrix.ncols ≡ second.matrix.ncols)
