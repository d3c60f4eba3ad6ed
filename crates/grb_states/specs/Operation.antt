-- believed: In which objects no change waits (own): in one, in some, and in all that an operation reads, which is when it may be made.
use Rattle.std.specs.Prelude.{ℕ, List, Option}
use Rattle.std.specs.List.{AllByRecursion}
use Rattle.grb_sparse.specs.Matrix.{SparseMatrixView}
use Rattle.grb_sparse.specs.Vector.{SparseVectorView}
use Rattle.grb_call.specs.declared.call.Call.{Call}
use Rattle.grb_call.specs.declared.ids.Object.{Object}
use Rattle.grb_call.specs.declared.ids.Object.TheVariants as object
use Rattle.grb_call.specs.Operands.{objects_read}
use Rattle.grb_objects.specs.Places.{IsAssembledAt}

-- the matrix, or the vector, with this number has no change that waits, if it is there
abbrev pub IsAssembledMatrix : List (Option SparseMatrixView) → ℕ → Type 0
IsAssembledMatrix matrices n = IsAssembledAt (λ (m : SparseMatrixView). m.assembled) matrices n

abbrev pub IsAssembledVector : List (Option SparseVectorView) → ℕ → Type 0
IsAssembledVector vectors n = IsAssembledAt (λ (x : SparseVectorView). x.assembled) vectors n

abbrev pub IsAssembled : List (Option SparseMatrixView) → List (Option SparseVectorView) → Object → Type 0
IsAssembled matrices vectors (object.Matrix a) = IsAssembledMatrix matrices a.0
IsAssembled matrices vectors (object.Vector v) = IsAssembledVector vectors v.0

-- nor in any of these
abbrev pub AreAllOf : List (Option SparseMatrixView) → List (Option SparseVectorView) → List Object → Type 0
AreAllOf matrices vectors os = AllByRecursion (IsAssembled matrices vectors) os

-- no change waits in any object that the call reads, its mask among them
abbrev pub AreAssembled : List (Option SparseMatrixView) → List (Option SparseVectorView) → Call → Type 0
AreAssembled matrices vectors c = AreAllOf matrices vectors (objects_read c)
