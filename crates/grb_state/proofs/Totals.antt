-- What a total that is not refused reads, and what a wait leaves.
use Rattle.std.proofs.Common.{◌≡◌, ℕ, true, List, [], ◌∷◌, refl, sym, ap, Option, Some, None, IfSome, is_some}
use Rattle.std.specs.Option.{option_map_or}
use Rattle.std.proofs.lemmas.Bool.{and_parts}
use Rattle.grb_core.specs.declared.monoid.Monoid.{Monoid}
use Rattle.grb_core.specs.Monoid.{monoid_domain}
use Rattle.grb_core.specs.Results.{reduce_of}
use Rattle.grb_sparse.specs.Matrix.{SparseMatrixView}
use Rattle.grb_sparse.specs.Vector.{SparseVectorView}
use Rattle.grb_call.specs.declared.call.Call.TheVariants as call
use Rattle.grb_call.specs.declared.ids.MatrixId.{MatrixId}
use Rattle.grb_call.specs.declared.ids.VectorId.{VectorId}
use Rattle.grb_call.specs.declared.ids.Object.TheVariants as object
use Rattle.grb_call.specs.Shapes.{object_at}
use Rattle.grb_call.specs.Store.{matrix_entries, vector_entries, matrix_shape, vector_shape}
use Rattle.grb_call.specs.After.{refused}
use Rattle.grb_call.proofs.Passed.{has_passed, matrix_given, vector_given}
use Rattle.grb_states.specs.Operation.{IsAssembledMatrix, IsAssembledVector}
use Rattle.grb_states.specs.Settled.{AreAllAssembled}
use Rattle.grb_objects.specs.Stored.{stored, stored_matrix, stored_vector}
use Rattle.grb_states.specs.State.{is_assembled}
use Rattle.grb_operations.proofs.Lent.{held, at_matrix, at_vector, matrix_entries-at, vector_entries-at}

assembled-matrix : (o : Option SparseMatrixView) → IfSome o (λ m. m.assembled ≡ true) → option_map_or (λ m. m.assembled) o true ≡ true
assembled-matrix None h = refl
assembled-matrix (Some x) h = h

assembled-vector : (o : Option SparseVectorView) → IfSome o (λ x. x.assembled ≡ true) → option_map_or (λ x. x.assembled) o true ≡ true
assembled-vector None h = refl
assembled-vector (Some x) h = h

module _ (ms : List (Option SparseMatrixView)) (vs : List (Option SparseVectorView)) where
  pub is_assembled-matrix : (a : MatrixId) → IsAssembledMatrix ms a.0 → is_assembled ms vs (object.Matrix a) ≡ true
  is_assembled-matrix a h = assembled-matrix (object_at ms a.0) h

  pub is_assembled-vector : (v : VectorId) → IsAssembledVector vs v.0 → is_assembled ms vs (object.Vector v) ≡ true
  is_assembled-vector v h = assembled-vector (object_at vs v.0) h

  pub are_all_assembled : ((n : ℕ) → IsAssembledMatrix ms n) → ((n : ℕ) → IsAssembledVector vs n) → AreAllAssembled (is_assembled ms vs)
  are_all_assembled h g (object.Matrix a) = is_assembled-matrix a (h a.0)
  are_all_assembled h g (object.Vector v) = is_assembled-vector v (g v.0)

  module _ (a : MatrixId) (monoid : Monoid) (accepted : refused (stored ms vs) (call.ReduceMatrix a monoid) ≡ None) where
    pub matrix_total-there : is_some (object_at ms a.0) ≡ true
    matrix_total-there = held stored_matrix matrix_shape ms a.0 (and_parts _ _ (has_passed (stored ms vs) (call.ReduceMatrix a monoid) accepted).initialized).0

    pub matrix_total-domain : (y : SparseMatrixView) → object_at ms a.0 ≡ Some y → monoid_domain monoid ≡ y.matrix.domain
    matrix_total-domain y at = sym (matrix_given (stored ms vs) a y.matrix (at_matrix ms vs a y at) (monoid_domain monoid ∷ []) (has_passed (stored ms vs) (call.ReduceMatrix a monoid) accepted).one_domain).0

    pub matrix_total-is : (y : SparseMatrixView) → object_at ms a.0 ≡ Some y → reduce_of monoid y.matrix.entries ≡ reduce_of monoid (matrix_entries (stored ms vs) a)
    matrix_total-is y at = ap (reduce_of monoid) (sym (matrix_entries-at ms vs a y at))

  module _ (v : VectorId) (monoid : Monoid) (accepted : refused (stored ms vs) (call.ReduceVector v monoid) ≡ None) where
    pub vector_total-there : is_some (object_at vs v.0) ≡ true
    vector_total-there = held stored_vector vector_shape vs v.0 (and_parts _ _ (has_passed (stored ms vs) (call.ReduceVector v monoid) accepted).initialized).0

    pub vector_total-domain : (y : SparseVectorView) → object_at vs v.0 ≡ Some y → monoid_domain monoid ≡ y.vector.domain
    vector_total-domain y at = sym (vector_given (stored ms vs) v y.vector (at_vector ms vs v y at) (monoid_domain monoid ∷ []) (has_passed (stored ms vs) (call.ReduceVector v monoid) accepted).one_domain).0

    pub vector_total-is : (y : SparseVectorView) → object_at vs v.0 ≡ Some y → reduce_of monoid y.vector.entries ≡ reduce_of monoid (vector_entries (stored ms vs) v)
    vector_total-is y at = ap (reduce_of monoid) (sym (vector_entries-at ms vs v y at))
