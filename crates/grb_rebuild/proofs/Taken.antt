-- None of the calls that make a store anew is refused where it is made.
use Rattle.std.proofs.Common.{ℕ, ◌+◌, ◌*◌, ◌≤◌, List, [], ◌∷◌, ◌++◌, length, refl, sym, subst, arith, length-append}
use Rattle.std.specs.Prelude.{IfSome, Option, Some, None}
use Rattle.std.specs.List.{AllByRecursion}
use Rattle.std.proofs.lemmas.List.Elements.{recursion_from_All}
use Rattle.grb_core.specs.declared.domain.Domain.{Domain}
use Rattle.grb_core.specs.declared.domain.Domain.TheVariants as domain
use Rattle.grb_core.specs.Entries.{MatrixEntries, VectorEntries}
use Rattle.grb_core.specs.Contents.{Matrix, Vector, IsMatrix, IsVector}
use Rattle.grb_call.specs.declared.call.Call.{Call}
use Rattle.grb_call.specs.declared.call.Call.TheVariants as call
use Rattle.grb_call.specs.Store.{Store, empty_store}
use Rattle.grb_call.specs.After.{after}
use Rattle.grb_call.specs.History.{after_all}
use Rattle.grb_call.proofs.ObjectLists.{object_at-end, length-push}
use Rattle.grb_rebuild.specs.Rebuilt.{matrix_build, matrix_calls, matrices_calls, vector_build, vector_calls, vectors_calls, AreTaken, RebuildIsTaken, RebuildIsShort}
use Rattle.grb_rebuild.proofs.Rebuilding.{store, matrix, vector, accepted, new_matrix, free_matrix, fills_matrix, new_vector, free_vector, fills_vector, matrix_made, vector_made, matrices_made}

AreTaken-append : (s : Store) (cs ds : List Call) → AreTaken s cs → AreTaken (after_all s cs) ds → AreTaken s (cs ++ ds)
AreTaken-append s [] ds h k = k
AreTaken-append s (c ∷ cs) ds h k = (h.0, h.1, AreTaken-append (after s c) cs ds h.2 k)

matrix_built : (ms : List (Option Matrix)) (vs : List (Option Vector)) (d : Domain) (r c : ℕ) (es : MatrixEntries) → IsMatrix (matrix d r c es) →
    AreTaken (store (ms ++ Some (matrix d r c []) ∷ []) vs) (matrix_build (record { 0 = length ms }) d es)
matrix_built ms vs d r c [] h = tt
matrix_built ms vs d r c (e ∷ es) h = (refl, fills_matrix ms vs d r c (e ∷ es) h, tt)

matrix_taken : (ms : List (Option Matrix)) (vs : List (Option Vector)) (m : Option Matrix) → IfSome m IsMatrix → AreTaken (store ms vs) (matrix_calls (length ms) m)
matrix_taken ms vs None h =
    let one = matrix domain.Bool 1 1 [] in
    let new = new_matrix (store ms vs) domain.Bool 1 1 refl refl in (
      refl,
      new,
      subst (λ s. AreTaken s (call.FreeMatrix (record { 0 = length ms }) ∷ [])) (sym (accepted (store ms vs) (call.NewMatrix domain.Bool 1 1) new))
          (refl, free_matrix (store (ms ++ Some one ∷ []) vs) (record { 0 = length ms }) one (object_at-end ms (Some one)), tt),
    )
matrix_taken ms vs (Some m) h =
    let new = new_matrix (store ms vs) m.domain m.nrows m.ncols h.nrows h.ncols in (
      refl,
      new,
      subst (λ s. AreTaken s (matrix_build (record { 0 = length ms }) m.domain m.entries)) (sym (accepted (store ms vs) (call.NewMatrix m.domain m.nrows m.ncols) new))
          (matrix_built ms vs m.domain m.nrows m.ncols m.entries h),
    )

matrices_taken : (ms : List (Option Matrix)) (vs : List (Option Vector)) (xs : List (Option Matrix)) → AllByRecursion (λ m. IfSome m IsMatrix) xs → AreTaken (store ms vs) (matrices_calls (length ms) xs)
matrices_taken ms vs [] h = tt
matrices_taken ms vs (x ∷ xs) h =
    AreTaken-append (store ms vs) (matrix_calls (length ms) x) (matrices_calls (length ms + 1) xs) (matrix_taken ms vs x h.0)
    (subst (λ s. AreTaken s (matrices_calls (length ms + 1) xs)) (sym (matrix_made ms vs x h.0))
    (subst (λ n. AreTaken (store (ms ++ x ∷ []) vs) (matrices_calls n xs)) (length-push ms x) (matrices_taken (ms ++ x ∷ []) vs xs h.1)))

vector_built : (ms : List (Option Matrix)) (vs : List (Option Vector)) (d : Domain) (n : ℕ) (es : VectorEntries) → IsVector (vector d n es) →
    AreTaken (store ms (vs ++ Some (vector d n []) ∷ [])) (vector_build (record { 0 = length vs }) d es)
vector_built ms vs d n [] h = tt
vector_built ms vs d n (e ∷ es) h = (refl, fills_vector ms vs d n (e ∷ es) h, tt)

vector_taken : (ms : List (Option Matrix)) (vs : List (Option Vector)) (x : Option Vector) → IfSome x IsVector → AreTaken (store ms vs) (vector_calls (length vs) x)
vector_taken ms vs None h =
    let one = vector domain.Bool 1 [] in
    let new = new_vector (store ms vs) domain.Bool 1 refl in (
      refl,
      new,
      subst (λ s. AreTaken s (call.FreeVector (record { 0 = length vs }) ∷ [])) (sym (accepted (store ms vs) (call.NewVector domain.Bool 1) new))
          (refl, free_vector (store ms (vs ++ Some one ∷ [])) (record { 0 = length vs }) one (object_at-end vs (Some one)), tt),
    )
vector_taken ms vs (Some x) h =
    let new = new_vector (store ms vs) x.domain x.size h.size in (
      refl,
      new,
      subst (λ s. AreTaken s (vector_build (record { 0 = length vs }) x.domain x.entries)) (sym (accepted (store ms vs) (call.NewVector x.domain x.size) new))
          (vector_built ms vs x.domain x.size x.entries h),
    )

vectors_taken : (ms : List (Option Matrix)) (vs xs : List (Option Vector)) → AllByRecursion (λ x. IfSome x IsVector) xs → AreTaken (store ms vs) (vectors_calls (length vs) xs)
vectors_taken ms vs [] h = tt
vectors_taken ms vs (x ∷ xs) h =
    AreTaken-append (store ms vs) (vector_calls (length vs) x) (vectors_calls (length vs + 1) xs) (vector_taken ms vs x h.0)
    (subst (λ s. AreTaken s (vectors_calls (length vs + 1) xs)) (sym (vector_made ms vs x h.0))
    (subst (λ n. AreTaken (store ms (vs ++ x ∷ [])) (vectors_calls n xs)) (length-push vs x) (vectors_taken ms (vs ++ x ∷ []) xs h.1)))

pub rebuild_is_taken : RebuildIsTaken
rebuild_is_taken s h =
    let ms = recursion_from_All (λ m. IfSome m IsMatrix) s.matrices h.matrices in
    AreTaken-append empty_store (matrices_calls 0 s.matrices) (vectors_calls 0 s.vectors) (matrices_taken [] [] s.matrices ms)
    (subst (λ t. AreTaken t (vectors_calls 0 s.vectors)) (sym (matrices_made [] [] s.matrices ms))
    (vectors_taken s.matrices [] s.vectors (recursion_from_All (λ x. IfSome x IsVector) s.vectors h.vectors)))

-- the calls of one number are two at most
few_build : (n : ℕ) (d : Domain) (es : MatrixEntries) → length (matrix_build (record { 0 = n }) d es) ≤ 1
few_build n d [] = omega arith
few_build n d (e ∷ es) = omega arith

few_matrix : (n : ℕ) (m : Option Matrix) → length (matrix_calls n m) ≤ 2
few_matrix n None = omega arith
few_matrix n (Some m) = let h = few_build n m.domain m.entries in omega arith

few_matrices : (n : ℕ) (ms : List (Option Matrix)) → length (matrices_calls n ms) ≤ 2 * length ms
few_matrices n [] = omega arith
few_matrices n (m ∷ ms) =
    let h = few_matrix n m in
    let t = few_matrices (n + 1) ms in
    let l = length-append (matrix_calls n m) (matrices_calls (n + 1) ms) in
    omega arith

few_vector_build : (n : ℕ) (d : Domain) (es : VectorEntries) → length (vector_build (record { 0 = n }) d es) ≤ 1
few_vector_build n d [] = omega arith
few_vector_build n d (e ∷ es) = omega arith

few_vector : (n : ℕ) (x : Option Vector) → length (vector_calls n x) ≤ 2
few_vector n None = omega arith
few_vector n (Some x) = let h = few_vector_build n x.domain x.entries in omega arith

few_vectors : (n : ℕ) (vs : List (Option Vector)) → length (vectors_calls n vs) ≤ 2 * length vs
few_vectors n [] = omega arith
few_vectors n (x ∷ vs) =
    let h = few_vector n x in
    let t = few_vectors (n + 1) vs in
    let l = length-append (vector_calls n x) (vectors_calls (n + 1) vs) in
    omega arith

pub rebuild_is_short : RebuildIsShort
rebuild_is_short s =
    let m = few_matrices 0 s.matrices in
    let v = few_vectors 0 s.vectors in
    let l = length-append (matrices_calls 0 s.matrices) (vectors_calls 0 s.vectors) in
    omega arith
