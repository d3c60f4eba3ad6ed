-- The store that a table keeps, and results that a table takes from a store.
use Rattle.std.proofs.Common.{◌≡◌, ℕ, suc, ◌+◌, ◌<◌, true, List, [], ◌∷◌, ◌++◌, length, refl, sym, ap, subst, ◌∙◌, Option, Some, None, arith}
use Rattle.grb_results.proofs.Prelude.{slice_get, option_map, option_map_or, Matrix, Vector, SparseMatrixView, SparseVectorView, Call, Object, after_all, ObjectShapes, is_live, object_at, Store, empty_store, matrix_shape, shapes_of, vector_shape, Content, MatrixContent, VectorContent, content_at, IsAt, is_assembled_content, matrix_in, vector_in, stored_matrix, stored_vector, SharedContent, Learnt, Table, AreMatricesOf, AreVectorsOf, Begins, IsLastKept, IsReadyIfThere, IsSameBut, IsTableOf, KeepsAll, last_of, contents_after, IsResult, IsTable, content_of, after_these, some_same}
use Rattle.grb_call.specs.declared.ids.Object.TheVariants as object
use Rattle.grb_objects.specs.declared.shared_content.SharedContent.TheVariants as shared
use Rattle.grb_results.proofs.Frame.{answer_is}
use Rattle.grb_results.proofs.Lists.{length_map, objects_more}
use Rattle.grb_results.proofs.Making.{of_at}

-- what it is
last_content : (cs : List Call) (t : Table) (o : Object) (v : SharedContent) → IsTableOf cs t → IsLastKept t o v → ◌≡◌ {A = Option Content} (Some (content_of v)) (content_at (after_all empty_store cs) o)
last_content cs t o v is last = answer_is cs t o (last_of t.learnt.lasts o) last.at v is.table is.all refl last.last last.kept

last_assembled : (t : Table) (o : Object) (v : SharedContent) → IsReadyIfThere t o → is_live t.learnt.shapes.objects o ≡ true → IsLastKept t o v → is_assembled_content v ≡ true
last_assembled t o v ready live last =
    let r = ready live in
    let at : r.at ≡ last.at = let f : suc r.at ≡ suc last.at = sym r.last ∙ last.last in omega (arith, f) in
    let one : ◌≡◌ {A = Option SharedContent} (Some r.content) (Some v) = some_same (Some r.content) (Some v) (sym r.kept ∙ (ap (slice_get t.results.items) at ∙ last.kept)) in
    subst (λ (x : SharedContent). is_assembled_content x ≡ true) (some_same r.content v one) r.assembled

matrix_same : (p : Option Matrix) (v : SharedContent) → ◌≡◌ {A = Option Content} (Some (content_of v)) (option_map MatrixContent p) → option_map stored_matrix (matrix_in v) ≡ p
matrix_same None (shared.Matrix m) e = cc
matrix_same None (shared.Vector x) e = cc
matrix_same (Some n) (shared.Matrix m) e = let f : MatrixContent m.matrix ≡ MatrixContent n = some_same (MatrixContent m.matrix) (MatrixContent n) e in cc
matrix_same (Some n) (shared.Vector x) e = let f : VectorContent x.vector ≡ MatrixContent n = some_same (VectorContent x.vector) (MatrixContent n) e in cc

vector_same : (p : Option Vector) (v : SharedContent) → ◌≡◌ {A = Option Content} (Some (content_of v)) (option_map VectorContent p) → option_map stored_vector (vector_in v) ≡ p
vector_same None (shared.Matrix m) e = cc
vector_same None (shared.Vector x) e = cc
vector_same (Some y) (shared.Matrix m) e = let f : MatrixContent m.matrix ≡ VectorContent y = some_same (MatrixContent m.matrix) (VectorContent y) e in cc
vector_same (Some y) (shared.Vector x) e = let f : VectorContent x.vector ≡ VectorContent y = some_same (VectorContent x.vector) (VectorContent y) e in cc

matrix_assembled : (v : SharedContent) → is_assembled_content v ≡ true → option_map_or (λ (m : SparseMatrixView). m.assembled) (matrix_in v) true ≡ true
matrix_assembled (shared.Matrix m) e = e
matrix_assembled (shared.Vector x) e = refl

vector_assembled : (v : SharedContent) → is_assembled_content v ≡ true → option_map_or (λ (x : SparseVectorView). x.assembled) (vector_in v) true ≡ true
vector_assembled (shared.Matrix m) e = refl
vector_assembled (shared.Vector x) e = e

shapes_now : (cs : List Call) (t : Table) → IsTableOf cs t → t.learnt.shapes.objects ≡ shapes_of (after_all empty_store cs)
shapes_now cs t is = is.table.learnt.shapes_are ∙ ap shapes_of (after_these cs (length t.learnt.nodes.items) is.all)

module _ (cs : List Call) (t : Table) (is : IsTableOf cs t) where
  abbrev s : Store
  s = after_all empty_store cs

  pub matrix_kept : (n : ℕ) (v : SharedContent) → IsLastKept t (object.Matrix (record { 0 = n })) v → option_map stored_matrix (matrix_in v) ≡ object_at s.matrices n
  matrix_kept n v last = matrix_same (object_at s.matrices n) v (last_content cs t (object.Matrix (record { 0 = n })) v is last)

  pub vector_kept : (n : ℕ) (v : SharedContent) → IsLastKept t (object.Vector (record { 0 = n })) v → option_map stored_vector (vector_in v) ≡ object_at s.vectors n
  vector_kept n v last = vector_same (object_at s.vectors n) v (last_content cs t (object.Vector (record { 0 = n })) v is last)

  pub count_matrices : length t.learnt.shapes.objects.matrices ≡ length s.matrices
  count_matrices = ap (λ (u : ObjectShapes). length u.matrices) (shapes_now cs t is) ∙ length_map (option_map matrix_shape) s.matrices

  pub count_vectors : length t.learnt.shapes.objects.vectors ≡ length s.vectors
  count_vectors = ap (λ (u : ObjectShapes). length u.vectors) (shapes_now cs t is) ∙ length_map (option_map vector_shape) s.vectors

module _ (t : Table) where
  pub matrix_ready : (n : ℕ) (v : SharedContent) → IsReadyIfThere t (object.Matrix (record { 0 = n })) → is_live t.learnt.shapes.objects (object.Matrix (record { 0 = n })) ≡ true →
      IsLastKept t (object.Matrix (record { 0 = n })) v → option_map_or (λ (m : SparseMatrixView). m.assembled) (matrix_in v) true ≡ true
  matrix_ready n v ready live last = matrix_assembled v (last_assembled t (object.Matrix (record { 0 = n })) v ready live last)

  pub vector_ready : (n : ℕ) (v : SharedContent) → IsReadyIfThere t (object.Vector (record { 0 = n })) → is_live t.learnt.shapes.objects (object.Vector (record { 0 = n })) ≡ true →
      IsLastKept t (object.Vector (record { 0 = n })) v → option_map_or (λ (x : SparseVectorView). x.assembled) (vector_in v) true ≡ true
  vector_ready n v ready live last = vector_assembled v (last_assembled t (object.Vector (record { 0 = n })) v ready live last)

-- one object more of the store
pub matrices_more : (t : Table) (ms : List (Option SparseMatrixView)) (n : ℕ) (q : Option SparseMatrixView) → AreMatricesOf t ms n → n < length t.learnt.shapes.objects.matrices →
    ((cs : List Call) → IsTableOf cs t → option_map stored_matrix q ≡ object_at (after_all empty_store cs).matrices n) → AreMatricesOf t (ms ++ q ∷ []) (n + 1)
matrices_more t ms n q before near here cs is =
    let count : length t.learnt.shapes.objects.matrices ≡ length (after_all empty_store cs).matrices = count_matrices cs t is in
    objects_more stored_matrix ms (after_all empty_store cs).matrices n q (before cs is) (omega (arith, near, count)) (here cs is)

pub vectors_more : (t : Table) (vs : List (Option SparseVectorView)) (n : ℕ) (q : Option SparseVectorView) → AreVectorsOf t vs n → n < length t.learnt.shapes.objects.vectors →
    ((cs : List Call) → IsTableOf cs t → option_map stored_vector q ≡ object_at (after_all empty_store cs).vectors n) → AreVectorsOf t (vs ++ q ∷ []) (n + 1)
vectors_more t vs n q before near here cs is =
    let count : length t.learnt.shapes.objects.vectors ≡ length (after_all empty_store cs).vectors = count_vectors cs t is in
    objects_more stored_vector vs (after_all empty_store cs).vectors n q (before cs is) (omega (arith, near, count)) (here cs is)

begun_result : (cs : List Call) (s : Store) (t : Table) (o : Object) (k : ℕ) (v : SharedContent) → IsTableOf cs t → s ≡ after_all empty_store cs → last_of t.learnt.lasts o ≡ suc k → IsAt s o v → IsResult cs k v
begun_result cs s t o k v is store last held p target =
    let since = is.table.learnt.since o in
    let same : o ≡ p = some_same o p (sym (since.changed k last) ∙ target) in
    let there : content_at s o ≡ Some (content_of v) = of_at s o v held in
    subst (λ (q : Object). contents_after cs (suc k) q ≡ Some (content_of v)) same
    (ap (λ (j : ℕ). contents_after cs j o) (sym last)
    ∙ (sym since.same
    ∙ (ap (λ (x : Store). content_at x o) (after_these cs (length t.learnt.nodes.items) is.all) ∙ (ap (λ (x : Store). content_at x o) (sym store) ∙ there))))

pub begun : (s : Store) (old new : Table) (o : Object) (m k : ℕ) (v : SharedContent) → m ≡ last_of old.learnt.lasts o → m ≡ suc k → IsAt s o v →
    ((cs : List Call) → IsTable cs old → IsResult cs k v → IsTable cs new) → IsSameBut old new → KeepsAll old new → Begins s old new
begun s old new o m k v last e held put same stays = record {
  table = λ cs is store. record {
    table = put cs is.table (begun_result cs s old o k v is store (sym last ∙ e) held);
    all = ap (λ (l : Learnt). length l.nodes.items) same.learnt ∙ is.all;
  };
  same = same;
  stays = stays;
}
