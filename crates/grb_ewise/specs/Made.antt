-- believed: Objects that are made whole: a vector of two lists (own), and the transposed of a matrix (GraphBLAS C API 2.0,
-- "Descriptors": `GrB_TRAN`).
use Rattle.std.specs.Prelude.{ℕ, Bool, if◌then◌else◌, List}
use Rattle.grb_core.specs.declared.domain.Domain.{Domain}
use Rattle.grb_core.specs.declared.value.Value.{Value}
use Rattle.grb_core.specs.Contents.{Matrix}
use Rattle.grb_core.specs.Results.{transposed}
use Rattle.grb_kernels.specs.Typed.{entries_of}
use Rattle.grb_sparse.specs.Vector.{SparseVectorView, settled_vector}

-- the vector of this domain and size that stores these values at these indices, and in which no change waits
abbrev pub listed_vector : {V : Type 0} → Domain → ℕ → (V → Value) → List ℕ → List V → SparseVectorView
listed_vector domain size value indices values = settled_vector domain size (entries_of value indices values)

-- the matrix whose rows are the columns of this one: the value at row i and column j stands at row j and column i
abbrev pub transposed_matrix : Matrix → Matrix
transposed_matrix a = record { domain = a.domain; nrows = a.ncols; ncols = a.nrows; entries = transposed a.entries }

-- a matrix as it is read: itself, or its transposed
abbrev pub turned_matrix : Bool → Matrix → Matrix
turned_matrix tran a = if tran then transposed_matrix a else a
