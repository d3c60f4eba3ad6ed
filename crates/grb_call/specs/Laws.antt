-- believed: What calls leave as it is, and which numbers they do not give again: laws for all stores and all calls (own).
use Rattle.std.specs.Prelude.{◌≡◌, ◌≢◌, ◌<◌, List, length, Some, None}
use Rattle.grb_call.specs.declared.call.Call.{Call}
use Rattle.grb_call.specs.declared.ids.MatrixId.{MatrixId}
use Rattle.grb_call.specs.declared.ids.VectorId.{VectorId}
use Rattle.grb_call.specs.declared.ids.Object.TheVariants.{Matrix, Vector}
use Rattle.grb_call.specs.Output.{output_of}
use Rattle.grb_call.specs.Store.{Store, matrix_at, vector_at}
use Rattle.grb_call.specs.After.{after}
use Rattle.grb_call.specs.History.{after_all}
use Rattle.grb_call.specs.Numbers.{MakesMatrix, MakesVector}

-- a matrix that was made before a call stays as it is, whether it is there or freed, where it is not the output of the call
abbrev pub OtherMatricesStay : Type 0
OtherMatricesStay = (s : Store) (c : Call) (a : MatrixId) → a.0 < length s.matrices → output_of c ≢ Some (Matrix a) → matrix_at (after s c) a ≡ matrix_at s a

-- the same of vectors
abbrev pub OtherVectorsStay : Type 0
OtherVectorsStay = (s : Store) (c : Call) (v : VectorId) → v.0 < length s.vectors → output_of c ≢ Some (Vector v) → vector_at (after s c) v ≡ vector_at s v

-- the number of a matrix that a call makes is not that of one that a later call makes
abbrev pub MatricesAreMadeOnce : Type 0
MatricesAreMadeOnce = (s : Store) (c : Call) (a : MatrixId) (cs : List Call) (d : Call) (b : MatrixId) → MakesMatrix s c a → MakesMatrix (after_all (after s c) cs) d b → b ≢ a

-- the same of vectors
abbrev pub VectorsAreMadeOnce : Type 0
VectorsAreMadeOnce = (s : Store) (c : Call) (v : VectorId) (cs : List Call) (d : Call) (w : VectorId) → MakesVector s c v → MakesVector (after_all (after s c) cs) d w → w ≢ v

-- a matrix that was freed is not there after any calls
abbrev pub FreedMatricesStayFreed : Type 0
FreedMatricesStayFreed = (s : Store) (a : MatrixId) (cs : List Call) → a.0 < length s.matrices → matrix_at s a ≡ None → matrix_at (after_all s cs) a ≡ None

-- the same of vectors
abbrev pub FreedVectorsStayFreed : Type 0
FreedVectorsStayFreed = (s : Store) (v : VectorId) (cs : List Call) → v.0 < length s.vectors → vector_at s v ≡ None → vector_at (after_all s cs) v ≡ None
