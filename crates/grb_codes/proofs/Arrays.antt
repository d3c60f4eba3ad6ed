-- Arrays that are read and written one place after another.
use Rattle.std.proofs.Common.{◌≡◌, ℕ, zero, suc, ◌<◌, List, [], ◌∷◌, ◌++◌, length, take, get_or, refl, ap, ◌∙◌, arith}
use Rattle.std.specs.Prelude.{slice_set, map, All, Option, Some, None, IfSome}
use Rattle.std.specs.List.{AllByRecursion}
use Rattle.std.proofs.lemmas.List.Elements.{All-from_recursion, recursion_from_All}
use Rattle.grb_core.specs.declared.value.Value.{Value}
use Rattle.grb_core.specs.Entries.{VectorEntries}
use Rattle.grb_lists.specs.Arrays.{cells_in}
use Rattle.grb_sparse.specs.Arrays.{entries_of_arrays, paired}
use Rattle.grb_sparse.specs.Matrix.{decoded}
use Rattle.grb_sparse.proofs.OfArrays.{decoded-cells_in}
use Rattle.grb_call.specs.Tuples.{tuples_of}
use Rattle.grb_codes.specs.Arrays.{cells_of_arrays, indices_of_arrays, written}

-- one cell more
pub cells-next : {X : Type 0} (f : X → Value) (is js : List ℕ) (xs : List X) (k : ℕ) (d : X) → k < length xs → length is ≡ length xs → length js ≡ length xs →
    cells_of_arrays f (take (suc k) is) (take (suc k) js) (take (suc k) xs) ≡ cells_of_arrays f (take k is) (take k js) (take k xs) ++ (get_or is k 0, get_or js k 0, f (get_or xs k d)) ∷ []
cells-next f is js [] k d lt a b = absurd (omega (arith, lt))
cells-next f [] js (x ∷ xs) k d lt a b = absurd (omega (arith, a))
cells-next f (i ∷ is) [] (x ∷ xs) k d lt a b = absurd (omega (arith, b))
cells-next f (i ∷ is) (j ∷ js) (x ∷ xs) zero d lt a b = refl
cells-next f (i ∷ is) (j ∷ js) (x ∷ xs) (suc k) d lt a b = ap (λ (t : List (ℕ × ℕ × Value)). (i, j, f x) ∷ t) (cells-next f is js xs k d (omega (arith, lt)) (omega (arith, a)) (omega (arith, b)))

pub indices-next : {X : Type 0} (f : X → Value) (is : List ℕ) (xs : List X) (k : ℕ) (d : X) → k < length xs → length is ≡ length xs →
    indices_of_arrays f (take (suc k) is) (take (suc k) xs) ≡ indices_of_arrays f (take k is) (take k xs) ++ (get_or is k 0, f (get_or xs k d)) ∷ []
indices-next f is [] k d lt a = absurd (omega (arith, lt))
indices-next f [] (x ∷ xs) k d lt a = absurd (omega (arith, a))
indices-next f (i ∷ is) (x ∷ xs) zero d lt a = refl
indices-next f (i ∷ is) (x ∷ xs) (suc k) d lt a = ap (λ (t : List (ℕ × Value)). (i, f x) ∷ t) (indices-next f is xs k d (omega (arith, lt)) (omega (arith, a)))

-- one place more is written
pub write-next : {E X : Type 0} (f : E → X) (before : List E) (e : E) (xs : List X) → length before < length xs →
    slice_set (written f before xs) (length before) (f e) ≡ written f (before ++ e ∷ []) xs
write-next f [] e [] lt = absurd (omega (arith, lt))
write-next f (b ∷ bs) e [] lt = absurd (omega (arith, lt))
write-next f [] e (x ∷ xs) lt = refl
write-next {X = X} f (b ∷ bs) e (x ∷ xs) lt = ap (λ (t : List X). f b ∷ t) (write-next f bs e xs (omega (arith, lt)))

-- the entries of arrays as tuples
pub tuples_of-arrays : {X : Type 0} (f : X → Value) (is js : List ℕ) (xs : List X) → tuples_of (entries_of_arrays is js (map f xs)) ≡ cells_of_arrays f is js xs
tuples_of-arrays f [] js xs = refl
tuples_of-arrays f (i ∷ is) [] xs = refl
tuples_of-arrays f (i ∷ is) (j ∷ js) [] = refl
tuples_of-arrays f (i ∷ is) (j ∷ js) (x ∷ xs) = ap (λ (t : List (ℕ × ℕ × Value)). (i, j, f x) ∷ t) (tuples_of-arrays f is js xs)

pub paired-arrays : {X : Type 0} (f : X → Value) (is : List ℕ) (xs : List X) → paired is (map f xs) ≡ indices_of_arrays f is xs
paired-arrays f [] xs = refl
paired-arrays f (i ∷ is) [] = refl
paired-arrays f (i ∷ is) (x ∷ xs) = ap (λ (t : List (ℕ × Value)). (i, f x) ∷ t) (paired-arrays f is xs)

-- the entries of tuples that lie apart
pub apart_entries : (is js : List ℕ) (vs : List Value) (made : Option VectorEntries) → IfSome made (λ t. t ≡ paired (cells_in is js) vs) → IfSome made (λ t. All (λ j. j < 4294967296) js)
    → IfSome made (λ t. decoded t ≡ entries_of_arrays is js vs)
apart_entries is js vs None t w = tt
apart_entries is js vs (Some x) t w = ap decoded t ∙ decoded-cells_in is js vs (λ k l. w k 0 l)

below_each : (is : List ℕ) (vs : List Value) → AllByRecursion (λ i. i < 4294967296) is → AllByRecursion (λ e. e.0 < 4294967296) (paired is vs)
below_each [] vs w = tt
below_each (i ∷ is) [] w = tt
below_each (i ∷ is) (v ∷ vs) w = (w.0, below_each is vs w.1)

-- where indices are below 2^32, so are those of pairs
pub paired-below : (is : List ℕ) (vs : List Value) → All (λ i. i < 4294967296) is → All (λ e. e.0 < 4294967296) (paired is vs)
paired-below is vs w = All-from_recursion (λ (e : ℕ × Value). e.0 < 4294967296) (paired is vs) (below_each is vs (recursion_from_All (λ i. i < 4294967296) is w))
