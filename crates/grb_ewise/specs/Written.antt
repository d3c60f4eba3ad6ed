-- believed: What an operation leaves in a sparse output: what `grb_core/Written` says, where the mask is lent.
use Rattle.std.specs.Prelude.{Option}
use Rattle.std.specs.Option.{option_map}
use Rattle.std.specs.Borrow.{Bor}
use Rattle.grb_core.specs.declared.operator.BinaryOp.{BinaryOp}
use Rattle.grb_core.specs.Entries.{VectorEntries, MatrixEntries}
use Rattle.grb_core.specs.Contents.{Vector, Matrix}
use Rattle.grb_core.specs.declared.descriptor.Descriptor.{Descriptor}
use Rattle.grb_core.specs.Written.{written_matrix, written_vector}
use Rattle.grb_sparse.specs.Vector.{SparseVectorView}
use Rattle.grb_sparse.specs.Matrix.{SparseMatrixView}

-- the vector `output` with what was computed written into it: its domain and its size stay
abbrev pub written_into_vector : SparseVectorView → Option (Bor SparseVectorView) → Option BinaryOp → Descriptor → VectorEntries → Vector
written_into_vector output mask accum d computed = written_vector (option_map (λ m. m.now.vector.entries) mask) accum d computed output.vector

-- the matrix `output` with what was computed written into it: its domain and its dimensions stay
abbrev pub written_into_matrix : SparseMatrixView → Option (Bor SparseMatrixView) → Option BinaryOp → Descriptor → MatrixEntries → Matrix
written_into_matrix output mask accum d computed = written_matrix (option_map (λ m. m.now.matrix.entries) mask) accum d computed output.matrix
