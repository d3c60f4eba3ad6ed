-- believed: The store that sparse objects are, at their numbers (own).
use Rattle.std.specs.Prelude.{List, map, Option}
use Rattle.std.specs.Option.{option_map}
use Rattle.grb_core.specs.Contents.{Matrix, Vector}
use Rattle.grb_sparse.specs.Matrix.{SparseMatrixView}
use Rattle.grb_sparse.specs.Vector.{SparseVectorView}
use Rattle.grb_call.specs.Store.{Store}

-- what a sparse matrix stores, or a sparse vector
abbrev pub stored_matrix : SparseMatrixView → Matrix
stored_matrix m = m.matrix

abbrev pub stored_vector : SparseVectorView → Vector
stored_vector v = v.vector

-- and what those of these places store
abbrev pub stored_matrices : List (Option SparseMatrixView) → List (Option Matrix)
stored_matrices matrices = map (option_map stored_matrix) matrices

abbrev pub stored_vectors : List (Option SparseVectorView) → List (Option Vector)
stored_vectors vectors = map (option_map stored_vector) vectors

-- the store of these objects
abbrev pub stored : List (Option SparseMatrixView) → List (Option SparseVectorView) → Store
stored matrices vectors = record { matrices = stored_matrices matrices; vectors = stored_vectors vectors }
