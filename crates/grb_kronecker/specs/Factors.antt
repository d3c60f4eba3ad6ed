-- believed: What kronecker asks of its inputs (own): no change waits in either, both are of the domain of the output, and it has as many rows
-- and as many columns as those of the first and of the second, as they are read, make together.
use Rattle.std.specs.Prelude.{◌≡◌, ℕ, ◌*◌, Bool, true}
use Rattle.grb_core.specs.declared.domain.Domain.{Domain}
use Rattle.grb_sparse.specs.Matrix.{SparseMatrixView}
use Rattle.grb_ewise.specs.Premises.{columns_read, rows_read}

-- two inputs of this domain, whose product has so many rows and columns
pub record AreFactors (tran tran1 : Bool) (of : Domain) (nrows ncols : ℕ) (a b : SparseMatrixView) : Type 0 where
  pub a_assembled : a.assembled ≡ true
  pub b_assembled : b.assembled ≡ true
  pub a_domain : a.matrix.domain ≡ of
  pub b_domain : b.matrix.domain ≡ of
  pub rows : rows_read tran a.matrix * rows_read tran1 b.matrix ≡ nrows
  pub columns : columns_read tran a.matrix * columns_read tran1 b.matrix ≡ ncols
