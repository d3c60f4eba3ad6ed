-- The calls of the first numbers, and of one number more.
use Rattle.std.proofs.Common.{◌≡◌, ℕ, zero, suc, ◌+◌, ◌<◌, ◌≤◌, Bool, true, false, List, [], ◌∷◌, ◌++◌, length, refl, sym, ap, subst, ◌∙◌, arith, append_assoc, add-one}
use Rattle.std.specs.Prelude.{IfSome, Option, Some, None, take, All, slice_index_or, is_some, if◌then◌else◌, ◌==◌}
use Rattle.std.specs.Option.{option_map, option_map_or}
use Rattle.grb_core.specs.declared.domain.Domain.{Domain}
use Rattle.grb_core.specs.Entries.{MatrixEntries, VectorEntries, nvals_of}
use Rattle.grb_core.specs.Contents.{Matrix, Vector}
use Rattle.std.proofs.lemmas.Bool.Decides.{nat_tests}
use Rattle.std.proofs.lemmas.List.{append-nil}
use Rattle.grb_call.specs.Shapes.{object_at}
use Rattle.grb_rebuild.specs.Rebuilt.{matrix_build, vector_build, matrix_calls, matrices_calls, vector_calls, vectors_calls}

more_matrices : (k n : ℕ) (xs : List (Option Matrix)) → n < length xs → matrices_calls k (take (suc n) xs) ≡ matrices_calls k (take n xs) ++ matrix_calls (k + n) (object_at xs n)
more_matrices k n [] lt = absurd (omega arith)
more_matrices k zero (x ∷ xs) lt = append-nil (matrix_calls k x) ∙ ap (λ m. matrix_calls m x) (omega arith)
more_matrices k (suc n) (x ∷ xs) lt =
    let here : (k + 1) + n ≡ k + suc n = omega arith in
    ap (λ t. matrix_calls k x ++ t) (more_matrices (k + 1) n xs (omega arith) ∙ ap (λ m. matrices_calls (k + 1) (take n xs) ++ matrix_calls m (object_at xs n)) here)
    ∙ sym (append_assoc (matrix_calls k x) (matrices_calls (k + 1) (take n xs)) (matrix_calls (k + suc n) (object_at xs n)))

pub matrices-more : (n : ℕ) (xs : List (Option Matrix)) → n < length xs → matrices_calls 0 (take (n + 1) xs) ≡ matrices_calls 0 (take n xs) ++ matrix_calls n (object_at xs n)
matrices-more n xs lt =
    ap (λ m. matrices_calls 0 (take m xs)) (add-one n) ∙ more_matrices 0 n xs lt ∙ ap (λ m. matrices_calls 0 (take n xs) ++ matrix_calls m (object_at xs n)) (omega arith)

more_vectors : (k n : ℕ) (xs : List (Option Vector)) → n < length xs → vectors_calls k (take (suc n) xs) ≡ vectors_calls k (take n xs) ++ vector_calls (k + n) (object_at xs n)
more_vectors k n [] lt = absurd (omega arith)
more_vectors k zero (x ∷ xs) lt = append-nil (vector_calls k x) ∙ ap (λ m. vector_calls m x) (omega arith)
more_vectors k (suc n) (x ∷ xs) lt =
    let here : (k + 1) + n ≡ k + suc n = omega arith in
    ap (λ t. vector_calls k x ++ t) (more_vectors (k + 1) n xs (omega arith) ∙ ap (λ m. vectors_calls (k + 1) (take n xs) ++ vector_calls m (object_at xs n)) here)
    ∙ sym (append_assoc (vector_calls k x) (vectors_calls (k + 1) (take n xs)) (vector_calls (k + suc n) (object_at xs n)))

pub vectors-more : (n : ℕ) (xs : List (Option Vector)) → n < length xs → vectors_calls 0 (take (n + 1) xs) ≡ vectors_calls 0 (take n xs) ++ vector_calls n (object_at xs n)
vectors-more n xs lt =
    ap (λ m. vectors_calls 0 (take m xs)) (add-one n) ∙ more_vectors 0 n xs lt ∙ ap (λ m. vectors_calls 0 (take n xs) ++ vector_calls m (object_at xs n)) (omega arith)

-- what holds of the object at each number holds of all
at_index : {X : Type 0} (xs : List (Option X)) (n : ℕ) (d : Option X) → n < length xs → object_at xs n ≡ slice_index_or xs n d
at_index [] n d lt = absurd (omega arith)
at_index (None ∷ xs) zero d lt = refl
at_index (Some x ∷ xs) zero d lt = refl
at_index (x ∷ xs) (suc n) d lt = at_index xs n d (omega arith)

pub all_objects : {X : Type 0} (P : X → Type 0) (xs : List (Option X)) → ((n : ℕ) → n < length xs → IfSome (object_at xs n) P) → All (λ x. IfSome x P) xs
all_objects P xs h = λ k d lt. subst (λ o. IfSome o P) (at_index xs k d lt) (h k lt)

pub some_is : {X : Type 0} (p : X → Bool) (o : Option X) → option_map_or p o true ≡ true → IfSome o (λ x. p x ≡ true)
some_is p None h = tt
some_is p (Some x) h = h

not_zero : (n : ℕ) → (suc n == 0) ≡ false
not_zero n = grind (arith, nat_tests)

-- how many calls make what stands at a number
filled_count : (n : ℕ) (d : Domain) (es : MatrixEntries) → suc (length (matrix_build (record { 0 = n }) d es)) ≡ (if length es == 0 then 1 else 2)
filled_count n d [] = refl
filled_count n d (e ∷ es) = ap (λ b. if b then 1 else 2) (sym (not_zero (length es)))

pub matrix_count : (n : ℕ) (m : Option Matrix) → length (matrix_calls n m) ≡ (if is_some m then (if nvals_of (option_map_or (λ x. x.entries) m []) == 0 then 1 else 2) else 2)
matrix_count n None = refl
matrix_count n (Some m) = filled_count n m.domain m.entries

filled_vector_count : (n : ℕ) (d : Domain) (es : VectorEntries) → suc (length (vector_build (record { 0 = n }) d es)) ≡ (if length es == 0 then 1 else 2)
filled_vector_count n d [] = refl
filled_vector_count n d (e ∷ es) = ap (λ b. if b then 1 else 2) (sym (not_zero (length es)))

pub vector_count : (n : ℕ) (x : Option Vector) → length (vector_calls n x) ≡ (if is_some x then (if nvals_of (option_map_or (λ x. x.entries) x []) == 0 then 1 else 2) else 2)
vector_count n None = refl
vector_count n (Some x) = filled_vector_count n x.domain x.entries

pub is_there : {X Y : Type 0} (f : X → Y) (o : Option X) (x : Option Y) → option_map f o ≡ x → is_some o ≡ is_some x
is_there f None x e = ap is_some e
is_there f (Some y) x e = ap is_some e

pub one_or_two : (b : Bool) (n : ℕ) → (1 ≤ (if b then (if n == 0 then 1 else 2) else 2)) × ((if b then (if n == 0 then 1 else 2) else 2) ≤ 2)
one_or_two b n = (
  elim b as (λ b. 1 ≤ (if b then (if n == 0 then 1 else 2) else 2)) [ true ↦ elim (n == 0) as (λ t. 1 ≤ (if t then 1 else 2)) [ true ↦ omega arith | false ↦ omega arith ] | false ↦ omega arith ],
  elim b as (λ b. (if b then (if n == 0 then 1 else 2) else 2) ≤ 2) [ true ↦ elim (n == 0) as (λ t. (if t then 1 else 2) ≤ 2) [ true ↦ omega arith | false ↦ omega arith ] | false ↦ omega arith ],
)
