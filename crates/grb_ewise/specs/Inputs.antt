-- believed: An input matrix as an operation reads it (own).
use Rattle.grb_sparse.specs.Matrix.{SparseMatrixView}
use Rattle.grb_ewise.specs.declared.inputs.MatrixRead.{MatrixRead}
use Rattle.grb_ewise.specs.declared.inputs.MatrixRead.TheVariants as read

-- the matrix that is read
abbrev pub matrix_read : MatrixRead → SparseMatrixView
matrix_read (read.Lent a) = a.now
matrix_read (read.Turned a) = a
