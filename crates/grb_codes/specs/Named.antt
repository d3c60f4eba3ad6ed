-- believed: The objects that stand at numbers (own).
use Rattle.std.specs.Prelude.{ℕ, List, map}
use Rattle.grb_call.specs.declared.ids.MatrixId.{MatrixId}
use Rattle.grb_call.specs.declared.ids.VectorId.{VectorId}

-- the matrices, and the vectors, of these numbers
abbrev pub matrices_named : List ℕ → List MatrixId
matrices_named numbers = map (λ n. record { 0 = n }) numbers

abbrev pub vectors_named : List ℕ → List VectorId
vectors_named numbers = map (λ n. record { 0 = n }) numbers
