-- What diag is lent that is not refused, and the store that it leaves.
use Rattle.std.proofs.Common.{◌≡◌, true, List, [], ◌∷◌, ◌++◌, sym, ap, subst, ◌∙◌, Option, Some, None, is_some}
use Rattle.std.specs.Prelude.{map}
use Rattle.std.specs.Option.{option_map, option_map_or}
use Rattle.std.proofs.lemmas.Bool.{and_parts}
use Rattle.std.proofs.lemmas.List.{map_push}
use Rattle.grb_core.specs.Contents.{Matrix, Vector, IsDimension, is_dimension}
use Rattle.grb_core.specs.declared.tests.Diagonal.{Diagonal}
use Rattle.grb_core.specs.Maps.{diagonal_matrix, diagonal_size}
use Rattle.grb_sparse.specs.Matrix.{SparseMatrixView}
use Rattle.grb_sparse.specs.Vector.{SparseVectorView}
use Rattle.grb_call.specs.declared.call.Call.TheVariants as call
use Rattle.grb_call.specs.declared.ids.VectorId.{VectorId}
use Rattle.grb_call.specs.Shapes.{object_at}
use Rattle.grb_call.specs.Store.{vector_at, vector_shape, with_matrix}
use Rattle.grb_call.specs.After.{refused}
use Rattle.grb_call.proofs.ShapesAfter.{object_at-map}
use Rattle.grb_call.proofs.Passed.{has_passed}
use Rattle.grb_objects.specs.Stored.{stored, stored_matrices, stored_matrix, stored_vector, stored_vectors}
use Rattle.grb_operations.proofs.Lent.{held, at_vector}

-- the vectors as they were, and as they are where one was assembled
module _ (ms : List (Option SparseMatrixView)) (was now : List (Option SparseVectorView)) (same : stored_vectors now ≡ stored_vectors was)
    (v : VectorId) (d : Diagonal) (accepted : refused (stored ms was) (call.Diag v d) ≡ None) where
  still_accepted : refused (stored ms now) (call.Diag v d) ≡ None
  still_accepted = subst (λ (vs : List (Option Vector)). refused (record { matrices = stored_matrices ms; vectors = vs }) (call.Diag v d) ≡ None) (sym same) accepted

  pub diagonal_vector-there : is_some (object_at now v.0) ≡ true
  diagonal_vector-there = held stored_vector vector_shape now v.0 (and_parts _ _ (has_passed (stored ms now) (call.Diag v d) still_accepted).initialized).0

  module _ (y : SparseVectorView) (at : object_at now v.0 ≡ Some y) where
    pub diagonal_fits : IsDimension (diagonal_size d y.vector.size)
    diagonal_fits = subst (λ (o : Option Vector). is_dimension (diagonal_size d (option_map_or (λ x. x.1) (option_map vector_shape o) 0)) ≡ true)
        (at_vector ms now v y at)
        (subst (λ o. is_dimension (diagonal_size d (option_map_or (λ x. x.1) o 0)) ≡ true) (object_at-map vector_shape (stored_vectors now) v.0)
        (has_passed (stored ms now) (call.Diag v d) still_accepted).values)

    -- with a matrix that has its entries on the diagonal
    pub diagonal-made : (made : SparseMatrixView) → made.matrix ≡ diagonal_matrix d y.vector → (more : List (Option SparseMatrixView)) → more ≡ ms ++ Some made ∷ []
        → stored more now ≡ with_matrix (stored ms was) (option_map (diagonal_matrix d) (vector_at (stored ms was) v))
    diagonal-made made is more pushed =
        ap (λ (xs : List (Option SparseMatrixView)). stored xs now) pushed
        ∙ ap (λ (xs : List (Option Matrix)). record { matrices = xs; vectors = stored_vectors now }) (map_push (option_map stored_matrix) ms (Some made))
        ∙ ap (λ (m : Matrix). with_matrix (stored ms now) (Some m)) is
        ∙ ap (λ (o : Option Vector). with_matrix (stored ms now) (option_map (diagonal_matrix d) o)) (sym (at_vector ms now v y at))
        ∙ ap (λ (vs : List (Option Vector)). with_matrix (record { matrices = stored_matrices ms; vectors = vs }) (option_map (diagonal_matrix d) (vector_at (record { matrices = stored_matrices ms; vectors = vs }) v))) same
