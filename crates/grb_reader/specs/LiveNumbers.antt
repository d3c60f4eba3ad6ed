-- believed: Which objects are there, by their numbers (own), for who goes on with all of them.
use Rattle.std.specs.Prelude.{◌≡◌, ℕ, zero, suc, List, [], ◌∷◌, ◌++◌, length, map, filter, Option, is_some}
use Rattle.grb_call.specs.declared.ids.MatrixId.{MatrixId}
use Rattle.grb_call.specs.declared.ids.VectorId.{VectorId}
use Rattle.grb_call.specs.Shapes.{object_at}
use Rattle.grb_call.specs.Store.{Store}
use Rattle.grb_reader.specs.declared.live.LiveObjects.{LiveObjects}

-- the numbers below this one, rising
abbrev pub numbers_below : ℕ → List ℕ
numbers_below zero = []
numbers_below (suc n) = numbers_below n ++ n ∷ []

-- those at which something stands, rising
abbrev pub live_numbers : {X : Type 0} → List (Option X) → List ℕ
live_numbers xs = filter (λ n. is_some (object_at xs n)) (numbers_below (length xs))

-- the matrices, and the vectors, of these numbers
abbrev pub matrix_ids : List ℕ → List MatrixId
matrix_ids numbers = map (λ n. record { 0 = n }) numbers

abbrev pub vector_ids : List ℕ → List VectorId
vector_ids numbers = map (λ n. record { 0 = n }) numbers

-- these are the objects of the store, and so many numbers of each sort were given
pub record AreLiveObjects (s : Store) (live : LiveObjects) : Type 0 where
  pub matrices : live.matrices.items ≡ matrix_ids (live_numbers s.matrices)
  pub vectors : live.vectors.items ≡ vector_ids (live_numbers s.vectors)
  pub matrix_count : live.matrix_count ≡ length s.matrices
  pub vector_count : live.vector_count ≡ length s.vectors
