-- believed: What a holder has of an object of a store (own): what the store has there, in which no change waits.
use Rattle.std.specs.Prelude.{◌≡◌, true, Some}
use Rattle.grb_sparse.specs.Matrix.{SparseMatrixView}
use Rattle.grb_sparse.specs.Vector.{SparseVectorView}
use Rattle.grb_call.specs.declared.ids.MatrixId.{MatrixId}
use Rattle.grb_call.specs.declared.ids.VectorId.{VectorId}
use Rattle.grb_call.specs.Store.{Store, matrix_at, vector_at}

-- this is the matrix of the store, and no change waits in it
pub record IsMatrixOf (s : Store) (a : MatrixId) (m : SparseMatrixView) : Type 0 where
  pub stored : matrix_at s a ≡ Some m.matrix
  pub assembled : m.assembled ≡ true

-- this is the vector of the store, and no change waits in it
pub record IsVectorOf (s : Store) (v : VectorId) (x : SparseVectorView) : Type 0 where
  pub stored : vector_at s v ≡ Some x.vector
  pub assembled : x.assembled ≡ true
