-- believed: When a call may change an object, and whether it ends it (own; what the methods of the sparse matrices and vectors ask for).
use Rattle.std.specs.Prelude.{◌≡◌, ◌<◌, Bool, true, false, [], All}
use Rattle.grb_core.specs.Value.{value_domain}
use Rattle.grb_core.specs.Monoid.{monoid_domain}
use Rattle.grb_core.specs.Contents.{Matrix, Vector, IsDimension}
use Rattle.grb_call.specs.declared.call.Call.{Call}
use Rattle.grb_call.specs.declared.call.Call.TheVariants as call

-- the call may change or end this matrix by itself: what it names is within it and of its domain, and a build finds it empty
abbrev pub FitsMatrix : Call → Matrix → Type 0
FitsMatrix (call.SetMatrix a i j value) m = (i < m.nrows) × (j < m.ncols) × (value_domain value ≡ m.domain)
FitsMatrix (call.RemoveMatrix a i j) m = (i < m.nrows) × (j < m.ncols)
FitsMatrix (call.ResizeMatrix a nrows ncols) m = IsDimension nrows × IsDimension ncols
FitsMatrix (call.BuildMatrix a tuples dup) m =
    (m.entries ≡ []) × All (λ e. (e.0 < m.nrows) × (e.1 < m.ncols)) tuples × (monoid_domain dup ≡ m.domain) × All (λ e. value_domain e.2 ≡ m.domain) tuples
FitsMatrix (call.ClearMatrix a) m = Unit {0}
FitsMatrix (call.FreeMatrix a) m = Unit {0}
FitsMatrix _ m = ⊥

-- the call may change or end this vector by itself
abbrev pub FitsVector : Call → Vector → Type 0
FitsVector (call.SetVector v i value) x = (i < x.size) × (value_domain value ≡ x.domain)
FitsVector (call.RemoveVector v i) x = i < x.size
FitsVector (call.ResizeVector v size) x = IsDimension size
FitsVector (call.BuildVector v tuples dup) x =
    (x.entries ≡ []) × All (λ e. e.0 < x.size) tuples × (monoid_domain dup ≡ x.domain) × All (λ e. value_domain e.1 ≡ x.domain) tuples
FitsVector (call.ClearVector v) x = Unit {0}
FitsVector (call.FreeVector v) x = Unit {0}
FitsVector _ x = ⊥

-- whether the call ends a matrix, or a vector
abbrev pub ends_matrix : Call → Bool
ends_matrix (call.FreeMatrix a) = true
ends_matrix _ = false

abbrev pub ends_vector : Call → Bool
ends_vector (call.FreeVector v) = true
ends_vector _ = false
