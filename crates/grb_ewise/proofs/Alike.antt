-- Vectors and matrices as what is done to both sees them.
use Rattle.std.proofs.Common.{◌≡◌, true, refl}
use Rattle.std.specs.Prelude.{Option, Some, None, IfSome}
use Rattle.std.specs.Borrow.{Bor}
use Rattle.grb_core.specs.Entries.{VectorEntries, MatrixEntries}
use Rattle.grb_sparse.specs.Vector.{SparseVectorView}
use Rattle.grb_sparse.specs.Matrix.{SparseMatrixView}
use Rattle.grb_ewise.specs.Objects.{AreAlike, IsLike, contents_of_vector, contents_of_matrix}
use Rattle.grb_ewise.proofs.Whole.{vector_of, same_vector}
use Rattle.grb_ewise.proofs.WholeMatrix.{matrix_of, same_matrix}

-- a vector that is like another is that one with its entries
pub vector_like : (old new : SparseVectorView) (es : VectorEntries) → IsLike (contents_of_vector old) es (contents_of_vector new) → new.vector ≡ vector_of old.vector.domain old.vector.size es
vector_like old new es h = same_vector new.vector.domain old.vector.domain new.vector.size old.vector.size new.vector.entries es h.domain h.columns h.entries

pub matrix_like : (old new : SparseMatrixView) (es : MatrixEntries) → IsLike (contents_of_matrix old) es (contents_of_matrix new) → new.matrix ≡ matrix_of old.matrix.domain old.matrix.nrows old.matrix.ncols es
matrix_like old new es h =
    same_matrix new.matrix.domain old.matrix.domain new.matrix.nrows old.matrix.nrows new.matrix.ncols old.matrix.ncols new.matrix.entries es h.domain h.rows h.columns h.entries

-- two vectors of one size, and two matrices of the same dimensions
pub vectors_alike : (u v : SparseVectorView) → u.assembled ≡ true → v.assembled ≡ true → v.vector.size ≡ u.vector.size → AreAlike (contents_of_vector u) (contents_of_vector v)
vectors_alike u v a b s = record { first = a; second = b; rows = refl; columns = s }

pub matrices_alike : (a b : SparseMatrixView) → a.assembled ≡ true → b.assembled ≡ true → b.matrix.nrows ≡ a.matrix.nrows → b.matrix.ncols ≡ a.matrix.ncols
    → AreAlike (contents_of_matrix a) (contents_of_matrix b)
matrices_alike a b x y r c = record { first = x; second = y; rows = r; columns = c }

-- an output and its mask, if there is one
pub vector_mask : (w : SparseVectorView) (mask : Option (Bor SparseVectorView)) → w.assembled ≡ true → IfSome mask (λ m. m.now.assembled ≡ true) → IfSome mask (λ m. m.now.vector.size ≡ w.vector.size)
    → IfSome mask (λ m. AreAlike (contents_of_vector w) (contents_of_vector m.now))
vector_mask w None a b s = tt
vector_mask w (Some m) a b s = vectors_alike w m.now a b s

pub matrix_mask : (w : SparseMatrixView) (mask : Option (Bor SparseMatrixView)) → w.assembled ≡ true → IfSome mask (λ m. m.now.assembled ≡ true)
    → IfSome mask (λ m. m.now.matrix.nrows ≡ w.matrix.nrows) → IfSome mask (λ m. m.now.matrix.ncols ≡ w.matrix.ncols)
    → IfSome mask (λ m. AreAlike (contents_of_matrix w) (contents_of_matrix m.now))
matrix_mask w None a b r c = tt
matrix_mask w (Some m) a b r c = matrices_alike w m.now a b r c
