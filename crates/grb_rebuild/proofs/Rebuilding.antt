-- The calls that make a store anew leave that store.
use Rattle.std.proofs.Common.{◌≡◌, ℕ, ◌+◌, ◌<◌, Bool, true, ◌&&◌, T, List, [], ◌∷◌, ◌++◌, map, length, refl, sym, ap, subst, ◌∙◌, arith, append_assoc}
use Rattle.std.specs.Prelude.{nat_lt, IsTrue, IfSome, Option, Some, None, slice_set}
use Rattle.std.specs.Option.{option_map, option_map_or}
use Rattle.std.specs.Ordering.{nat_cmp}
use Rattle.std.specs.Cmp.{nat_cmp_total}
use Rattle.std.specs.List.{AllByRecursion, list_all}
use Rattle.std.specs.FinMap.{nat_cmp-IsAntisymmetric}
use Rattle.std.proofs.lemmas.List.Elements.{recursion_from_All}
use Rattle.std.proofs.lemmas.Bool.Decides.{nat_tests}
use Rattle.std.proofs.lemmas.List.{append-nil}
use Rattle.grb_core.specs.declared.domain.Domain.{Domain}
use Rattle.grb_core.specs.declared.domain.Domain.TheVariants as domain
use Rattle.grb_core.specs.declared.monoid.Monoid.{Monoid}
use Rattle.grb_core.specs.declared.value.Value.{Value}
use Rattle.grb_core.specs.declared.value.Value.TheVariants as value
use Rattle.grb_core.specs.Value.{value_domain, IsValueOf}
use Rattle.grb_core.specs.Monoid.{monoid_domain}
use Rattle.grb_core.specs.Entries.{cell_cmp, cells_of, MatrixEntries, VectorEntries, built_from}
use Rattle.grb_core.specs.Contents.{Matrix, Vector, IsMatrix, IsVector, IsDimension, is_dimension}
use Rattle.grb_core.proofs.Maps.{cell_cmp_total, cell_cmp-IsAntisymmetric}
use Rattle.grb_call.specs.declared.call.Call.{Call}
use Rattle.grb_call.specs.declared.call.Call.TheVariants as call
use Rattle.grb_call.specs.declared.ids.MatrixId.{MatrixId}
use Rattle.grb_call.specs.declared.ids.VectorId.{VectorId}
use Rattle.grb_call.specs.Shapes.{matrix_shape_at, vector_shape_at}
use Rattle.grb_call.specs.Refused.{same_domain}
use Rattle.grb_call.specs.Tuples.{tuples_of}
use Rattle.grb_call.specs.Store.{Store, IsStore, empty_store, shapes_of, matrix_shape, vector_shape, matrix_at, vector_at}
use Rattle.grb_call.specs.After.{refused, changed, after}
use Rattle.grb_call.specs.History.{after_all}
use Rattle.grb_call.proofs.ShapesAfter.{object_at-map}
use Rattle.grb_call.proofs.ObjectLists.{object_at-end, length-push}
use Rattle.grb_call.proofs.Runs.{after_all-append}
use Rattle.grb_rebuild.specs.Rebuilt.{monoid_for, matrix_build, matrix_calls, matrices_calls, vector_build, vector_calls, vectors_calls, rebuilt}
use Rattle.grb_tuples.proofs.SortedBuilds.{built_from-sorted}

abbrev pub store : List (Option Matrix) → List (Option Vector) → Store
store ms vs = record { matrices = ms; vectors = vs }

abbrev pub matrix : Domain → ℕ → ℕ → MatrixEntries → Matrix
matrix d r c es = record { domain = d; nrows = r; ncols = c; entries = es }

pub accepted : (s : Store) (c : Call) → refused s c ≡ None → after s c ≡ changed s c
accepted s c none = ap (λ o. option_map_or (λ _. s) o (changed s c)) none

set-end : {X : Type 0} (xs : List X) (x y : X) → slice_set (xs ++ x ∷ []) (length xs) y ≡ xs ++ y ∷ []
set-end [] x y = refl
set-end (z ∷ xs) x y = ap (λ t. z ∷ t) (set-end xs x y)

-- a new of valid dimensions is not refused
pub new_matrix : (s : Store) (d : Domain) (r c : ℕ) → IsDimension r → IsDimension c → refused s (call.NewMatrix d r c) ≡ None
new_matrix s d r c rows columns =
    let both : (is_dimension r && is_dimension c) ≡ true = ap (λ b. b && is_dimension c) rows ∙ columns in
    simp both

pub free_matrix : (s : Store) (a : MatrixId) (m : Matrix) → matrix_at s a ≡ Some m → refused s (call.FreeMatrix a) ≡ None
free_matrix s a m at =
    let shape : matrix_shape_at (shapes_of s) a ≡ Some (matrix_shape m) = object_at-map matrix_shape s.matrices a.0 ∙ ap (option_map matrix_shape) at in
    simp shape

pub build_matrix : (s : Store) (a : MatrixId) (tuples : List (ℕ × ℕ × Value)) (dup : Monoid) (d : Domain) (r c : ℕ) →
    matrix_at s a ≡ Some (matrix d r c []) →
    list_all (same_domain d) (monoid_domain dup ∷ map (λ e. value_domain e.2) tuples) ≡ true →
    list_all (λ e. nat_lt e.0 r && nat_lt e.1 c) tuples ≡ true →
    refused s (call.BuildMatrix a tuples dup) ≡ None
build_matrix s a tuples dup d r c at domains bounds =
    let shape : matrix_shape_at (shapes_of s) a ≡ Some (d, r, c) = object_at-map matrix_shape s.matrices a.0 ∙ ap (option_map matrix_shape) at in
    simp (shape, at, domains, bounds)

-- the values of entries, and their places, pass the tests of a build
same_domain-itself : (d : Domain) (v : Value) → IsValueOf d v → same_domain d (value_domain v) ≡ true
same_domain-itself domain.Bool (value.Bool b) h = refl
same_domain-itself domain.Uint64 (value.Uint64 n) h = refl
same_domain-itself domain.Bool (value.Uint64 n) h = absurd h
same_domain-itself domain.Uint64 (value.Bool b) h = absurd h

monoid_for-domain : (d : Domain) → monoid_domain (monoid_for d) ≡ d
monoid_for-domain domain.Bool = refl
monoid_for-domain domain.Uint64 = refl

pub same_domain-monoid : (d : Domain) → same_domain d (monoid_domain (monoid_for d)) ≡ true
same_domain-monoid domain.Bool = refl
same_domain-monoid domain.Uint64 = refl

pub tuples-domain : (d : Domain) (es : MatrixEntries) → AllByRecursion (λ e. IsValueOf d e.1) es → list_all (same_domain d) (map (λ e. value_domain e.2) (tuples_of es)) ≡ true
tuples-domain d [] h = refl
tuples-domain d (e ∷ es) h = ap (λ b. b && list_all (same_domain d) (map (λ e. value_domain e.2) (tuples_of es))) (same_domain-itself d e.1 h.0) ∙ tuples-domain d es h.1

pub pairs-domain : (d : Domain) (es : VectorEntries) → AllByRecursion (λ e. IsValueOf d e.1) es → list_all (same_domain d) (map (λ e. value_domain e.1) es) ≡ true
pairs-domain d [] h = refl
pairs-domain d (e ∷ es) h = ap (λ b. b && list_all (same_domain d) (map (λ e. value_domain e.1) es)) (same_domain-itself d e.1 h.0) ∙ pairs-domain d es h.1

nat_lt-true : (i n : ℕ) → i < n → nat_lt i n ≡ true
nat_lt-true i n h = grind (arith, nat_tests)

pub tuples-within : (r c : ℕ) (es : MatrixEntries) → AllByRecursion (λ e. (e.0.0 < r) × (e.0.1 < c)) es → list_all (λ e. nat_lt e.0 r && nat_lt e.1 c) (tuples_of es) ≡ true
tuples-within r c [] h = refl
tuples-within r c (e ∷ es) h =
    ap (λ b. (b && nat_lt e.0.1 c) && list_all (λ e. nat_lt e.0 r && nat_lt e.1 c) (tuples_of es)) (nat_lt-true e.0.0 r h.0.0)
    ∙ ap (λ b. b && list_all (λ e. nat_lt e.0 r && nat_lt e.1 c) (tuples_of es)) (nat_lt-true e.0.1 c h.0.1)
    ∙ tuples-within r c es h.1

pub pairs-within : (n : ℕ) (es : VectorEntries) → AllByRecursion (λ e. e.0 < n) es → list_all (λ e. nat_lt e.0 n) es ≡ true
pairs-within n [] h = refl
pairs-within n (e ∷ es) h = ap (λ b. b && list_all (λ e. nat_lt e.0 n) es) (nat_lt-true e.0 n h.0) ∙ pairs-within n es h.1

cells_of-tuples : (es : MatrixEntries) → cells_of (tuples_of es) ≡ es
cells_of-tuples [] = refl
cells_of-tuples (e ∷ es) = ap (λ t. e ∷ t) (cells_of-tuples es)

sorted : (b : Bool) → IsTrue b → T b
sorted b h = subst T (sym h) tt

built_matrix : (d : Domain) (r c : ℕ) (es : MatrixEntries) → IsMatrix (matrix d r c es) → built_from cell_cmp (monoid_for d) (cells_of (tuples_of es)) ≡ es
built_matrix d r c es h =
    ap (built_from cell_cmp (monoid_for d)) (cells_of-tuples es)
    ∙ built_from-sorted cell_cmp cell_cmp_total cell_cmp-IsAntisymmetric (monoid_for d) es (sorted _ h.ordered)
    (subst (λ k. AllByRecursion (λ e. IsValueOf k e.1) es) (sym (monoid_for-domain d)) (recursion_from_All (λ e. IsValueOf d e.1) es h.of_domain))

-- the build of a whole matrix's entries is not refused where it is new
pub fills_matrix : (ms : List (Option Matrix)) (vs : List (Option Vector)) (d : Domain) (r c : ℕ) (es : MatrixEntries) → IsMatrix (matrix d r c es) →
    refused (store (ms ++ Some (matrix d r c []) ∷ []) vs) (call.BuildMatrix (record { 0 = length ms }) (tuples_of es) (monoid_for d)) ≡ None
fills_matrix ms vs d r c es h =
    build_matrix (store (ms ++ Some (matrix d r c []) ∷ []) vs) (record { 0 = length ms }) (tuples_of es) (monoid_for d) d r c (object_at-end ms (Some (matrix d r c [])))
    (ap (λ t. t && list_all (same_domain d) (map (λ e. value_domain e.2) (tuples_of es))) (same_domain-monoid d) ∙ tuples-domain d es (recursion_from_All (λ e. IsValueOf d e.1) es h.of_domain))
    (tuples-within r c es (recursion_from_All (λ e. (e.0.0 < r) × (e.0.1 < c)) es h.within))

-- a matrix is made anew at the next number
filled : (ms : List (Option Matrix)) (vs : List (Option Vector)) (d : Domain) (r c : ℕ) (es : MatrixEntries) → IsMatrix (matrix d r c es) →
    after_all (store (ms ++ Some (matrix d r c []) ∷ []) vs) (matrix_build (record { 0 = length ms }) d es) ≡ store (ms ++ Some (matrix d r c es) ∷ []) vs
filled ms vs d r c [] h = refl
filled ms vs d r c (e ∷ es) h =
    let s = store (ms ++ Some (matrix d r c []) ∷ []) vs in
    let at : matrix_at s (record { 0 = length ms }) ≡ Some (matrix d r c []) = object_at-end ms (Some (matrix d r c [])) in
    let b = call.BuildMatrix (record { 0 = length ms }) (tuples_of (e ∷ es)) (monoid_for d) in
    let taken = fills_matrix ms vs d r c (e ∷ es) h in
    accepted s b taken
    ∙ ap (λ o. store (slice_set (ms ++ Some (matrix d r c []) ∷ []) (length ms) (option_map (λ m. matrix m.domain m.nrows m.ncols (built_from cell_cmp (monoid_for d) (cells_of (tuples_of (e ∷ es))))) o)) vs) at
    ∙ ap (λ fs. store (slice_set (ms ++ Some (matrix d r c []) ∷ []) (length ms) (Some (matrix d r c fs))) vs) (built_matrix d r c (e ∷ es) h)
    ∙ ap (λ xs. store xs vs) (set-end ms (Some (matrix d r c [])) (Some (matrix d r c (e ∷ es))))

pub matrix_made : (ms : List (Option Matrix)) (vs : List (Option Vector)) (m : Option Matrix) → IfSome m IsMatrix → after_all (store ms vs) (matrix_calls (length ms) m) ≡ store (ms ++ m ∷ []) vs
matrix_made ms vs None h =
    let one = matrix domain.Bool 1 1 [] in
    let s = store (ms ++ Some one ∷ []) vs in
    ap (λ s. after s (call.FreeMatrix (record { 0 = length ms }))) (accepted (store ms vs) (call.NewMatrix domain.Bool 1 1) (new_matrix (store ms vs) domain.Bool 1 1 refl refl))
    ∙ accepted s (call.FreeMatrix (record { 0 = length ms })) (free_matrix s (record { 0 = length ms }) one (object_at-end ms (Some one)))
    ∙ ap (λ xs. store xs vs) (set-end ms (Some one) None)
matrix_made ms vs (Some m) h =
    ap (λ s. after_all s (matrix_build (record { 0 = length ms }) m.domain m.entries)) (accepted (store ms vs) (call.NewMatrix m.domain m.nrows m.ncols) (new_matrix (store ms vs) m.domain m.nrows m.ncols h.nrows h.ncols))
    ∙ filled ms vs m.domain m.nrows m.ncols m.entries h

pub matrices_made : (ms : List (Option Matrix)) (vs : List (Option Vector)) (xs : List (Option Matrix)) → AllByRecursion (λ m. IfSome m IsMatrix) xs →
    after_all (store ms vs) (matrices_calls (length ms) xs) ≡ store (ms ++ xs) vs
matrices_made ms vs [] h = ap (λ t. store t vs) (sym (append-nil ms))
matrices_made ms vs (x ∷ xs) h =
    after_all-append (store ms vs) (matrix_calls (length ms) x) (matrices_calls (length ms + 1) xs)
    ∙ ap (λ s. after_all s (matrices_calls (length ms + 1) xs)) (matrix_made ms vs x h.0)
    ∙ ap (λ n. after_all (store (ms ++ x ∷ []) vs) (matrices_calls n xs)) (sym (length-push ms x))
    ∙ matrices_made (ms ++ x ∷ []) vs xs h.1
    ∙ ap (λ t. store t vs) (append_assoc ms (x ∷ []) xs)

abbrev pub vector : Domain → ℕ → VectorEntries → Vector
vector d n es = record { domain = d; size = n; entries = es }

pub new_vector : (s : Store) (d : Domain) (n : ℕ) → IsDimension n → refused s (call.NewVector d n) ≡ None
new_vector s d n size = simp size

pub free_vector : (s : Store) (v : VectorId) (x : Vector) → vector_at s v ≡ Some x → refused s (call.FreeVector v) ≡ None
free_vector s v x at =
    let shape : vector_shape_at (shapes_of s) v ≡ Some (vector_shape x) = object_at-map vector_shape s.vectors v.0 ∙ ap (option_map vector_shape) at in
    simp shape

pub build_vector : (s : Store) (v : VectorId) (tuples : VectorEntries) (dup : Monoid) (d : Domain) (n : ℕ) →
    vector_at s v ≡ Some (vector d n []) →
    list_all (same_domain d) (monoid_domain dup ∷ map (λ e. value_domain e.1) tuples) ≡ true →
    list_all (λ e. nat_lt e.0 n) tuples ≡ true →
    refused s (call.BuildVector v tuples dup) ≡ None
build_vector s v tuples dup d n at domains bounds =
    let shape : vector_shape_at (shapes_of s) v ≡ Some (d, n) = object_at-map vector_shape s.vectors v.0 ∙ ap (option_map vector_shape) at in
    simp (shape, at, domains, bounds)

built_vector : (d : Domain) (n : ℕ) (es : VectorEntries) → IsVector (vector d n es) → built_from nat_cmp (monoid_for d) es ≡ es
built_vector d n es h =
    built_from-sorted nat_cmp nat_cmp_total nat_cmp-IsAntisymmetric (monoid_for d) es (sorted _ h.ordered)
    (subst (λ k. AllByRecursion (λ e. IsValueOf k e.1) es) (sym (monoid_for-domain d)) (recursion_from_All (λ e. IsValueOf d e.1) es h.of_domain))

-- the build of a whole vector's entries is not refused where it is new
pub fills_vector : (ms : List (Option Matrix)) (vs : List (Option Vector)) (d : Domain) (n : ℕ) (es : VectorEntries) → IsVector (vector d n es) →
    refused (store ms (vs ++ Some (vector d n []) ∷ [])) (call.BuildVector (record { 0 = length vs }) es (monoid_for d)) ≡ None
fills_vector ms vs d n es h =
    build_vector (store ms (vs ++ Some (vector d n []) ∷ [])) (record { 0 = length vs }) es (monoid_for d) d n (object_at-end vs (Some (vector d n [])))
    (ap (λ t. t && list_all (same_domain d) (map (λ e. value_domain e.1) es)) (same_domain-monoid d) ∙ pairs-domain d es (recursion_from_All (λ e. IsValueOf d e.1) es h.of_domain))
    (pairs-within n es (recursion_from_All (λ e. e.0 < n) es h.within))

-- a vector is made anew at the next number
filled_vector : (ms : List (Option Matrix)) (vs : List (Option Vector)) (d : Domain) (n : ℕ) (es : VectorEntries) → IsVector (vector d n es) →
    after_all (store ms (vs ++ Some (vector d n []) ∷ [])) (vector_build (record { 0 = length vs }) d es) ≡ store ms (vs ++ Some (vector d n es) ∷ [])
filled_vector ms vs d n [] h = refl
filled_vector ms vs d n (e ∷ es) h =
    let s = store ms (vs ++ Some (vector d n []) ∷ []) in
    let at : vector_at s (record { 0 = length vs }) ≡ Some (vector d n []) = object_at-end vs (Some (vector d n [])) in
    let b = call.BuildVector (record { 0 = length vs }) (e ∷ es) (monoid_for d) in
    let taken = fills_vector ms vs d n (e ∷ es) h in
    accepted s b taken
    ∙ ap (λ o. store ms (slice_set (vs ++ Some (vector d n []) ∷ []) (length vs) (option_map (λ x. vector x.domain x.size (built_from nat_cmp (monoid_for d) (e ∷ es))) o))) at
    ∙ ap (λ fs. store ms (slice_set (vs ++ Some (vector d n []) ∷ []) (length vs) (Some (vector d n fs)))) (built_vector d n (e ∷ es) h)
    ∙ ap (λ xs. store ms xs) (set-end vs (Some (vector d n [])) (Some (vector d n (e ∷ es))))

pub vector_made : (ms : List (Option Matrix)) (vs : List (Option Vector)) (x : Option Vector) → IfSome x IsVector → after_all (store ms vs) (vector_calls (length vs) x) ≡ store ms (vs ++ x ∷ [])
vector_made ms vs None h =
    let one = vector domain.Bool 1 [] in
    let s = store ms (vs ++ Some one ∷ []) in
    ap (λ s. after s (call.FreeVector (record { 0 = length vs }))) (accepted (store ms vs) (call.NewVector domain.Bool 1) (new_vector (store ms vs) domain.Bool 1 refl))
    ∙ accepted s (call.FreeVector (record { 0 = length vs })) (free_vector s (record { 0 = length vs }) one (object_at-end vs (Some one)))
    ∙ ap (λ xs. store ms xs) (set-end vs (Some one) None)
vector_made ms vs (Some x) h =
    ap (λ s. after_all s (vector_build (record { 0 = length vs }) x.domain x.entries)) (accepted (store ms vs) (call.NewVector x.domain x.size) (new_vector (store ms vs) x.domain x.size h.size))
    ∙ filled_vector ms vs x.domain x.size x.entries h

pub vectors_made : (ms : List (Option Matrix)) (vs xs : List (Option Vector)) → AllByRecursion (λ x. IfSome x IsVector) xs →
    after_all (store ms vs) (vectors_calls (length vs) xs) ≡ store ms (vs ++ xs)
vectors_made ms vs [] h = ap (λ t. store ms t) (sym (append-nil vs))
vectors_made ms vs (x ∷ xs) h =
    after_all-append (store ms vs) (vector_calls (length vs) x) (vectors_calls (length vs + 1) xs)
    ∙ ap (λ s. after_all s (vectors_calls (length vs + 1) xs)) (vector_made ms vs x h.0)
    ∙ ap (λ n. after_all (store ms (vs ++ x ∷ [])) (vectors_calls n xs)) (sym (length-push vs x))
    ∙ vectors_made ms (vs ++ x ∷ []) xs h.1
    ∙ ap (λ t. store ms t) (append_assoc vs (x ∷ []) xs)

pub rebuild_leaves_the_store : (s : Store) → IsStore s → after_all empty_store (rebuilt s) ≡ s
rebuild_leaves_the_store s h =
    after_all-append empty_store (matrices_calls 0 s.matrices) (vectors_calls 0 s.vectors)
    ∙ ap (λ t. after_all t (vectors_calls 0 s.vectors)) (matrices_made [] [] s.matrices (recursion_from_All (λ m. IfSome m IsMatrix) s.matrices h.matrices))
    ∙ vectors_made s.matrices [] s.vectors (recursion_from_All (λ x. IfSome x IsVector) s.vectors h.vectors)
