-- Objects that are made for who goes on with them.
use Rattle.std.proofs.Common.{◌≡◌, ℕ, zero, suc, ◌+◌, ◌<◌, ◌≤◌, List, [], ◌∷◌, ◌++◌, length, map, take, refl, sym, ap, ◌∙◌, arith}
use Rattle.std.specs.Prelude.{Option, Some, None, slice_get, slice_index_or}
use Rattle.std.specs.Option.{option_map}
use Rattle.std.proofs.lemmas.List.{length-map, length_push, map_push, take_all, take_more}
use Rattle.std.proofs.lemmas.Option.{same_Some, slice_get-get_or}
use Rattle.grb_core.specs.Contents.{Matrix, Vector}
use Rattle.grb_call.specs.declared.ids.MatrixId.{MatrixId}
use Rattle.grb_call.specs.declared.ids.Object.TheVariants as object
use Rattle.grb_call.specs.declared.ids.VectorId.{VectorId}
use Rattle.grb_call.specs.Shapes.{object_at}
use Rattle.grb_call.specs.Store.{Store, matrix_at, vector_at}
use Rattle.grb_reader.specs.LiveNumbers.{matrix_ids, numbers_below, vector_ids}
use Rattle.grb_rebuild.specs.declared.rebuild.NoSuccessor.{NoSuccessor}
use Rattle.grb_rebuild.specs.declared.rebuild.NoSuccessor.TheVariants as no
use Rattle.grb_pass.specs.Chosen.{IsNoSuccessor, NamesChosen, NamesLive, chosen_store}
use Rattle.grb_pass.specs.Making.{IsForMemory, IsNotBegun}

-- what is made of a list's first elements and one more
map_take : {X Y : Type 0} (f : X → Y) (xs : List X) (k : ℕ) (x : X) → slice_get xs k ≡ Some x → map f (take (suc k) xs) ≡ map f (take k xs) ++ f x ∷ []
map_take f [] k x e = cc
map_take f (y ∷ xs) zero x e = ap (λ z. f z ∷ []) (same_Some y x e)
map_take {Y = Y} f (y ∷ xs) (suc k) x e = ap (λ (zs : List Y). f y ∷ zs) (map_take f xs k x e)

-- one more of those that were chosen
pub chosen_more : {X Y I : Type 0} (f : X → Y) (g : I → Option Y) (xs : List (Option X)) (q : Option X) (ids : List I) (at : ℕ) (d : I) → map (option_map f) xs ≡ map g (take at ids) → at < length ids
    → option_map f q ≡ g (slice_index_or ids at d) → map (option_map f) (xs ++ q ∷ []) ≡ map g (take (at + 1) ids)
chosen_more {Y = Y} f g xs q ids at d before near here =
    let next : suc at ≡ at + 1 = omega arith in
    map_push (option_map f) xs q
    ∙ (ap (λ (zs : List (Option Y)). zs ++ option_map f q ∷ []) before
    ∙ (ap (λ (z : Option Y). map g (take at ids) ++ z ∷ []) here ∙ (sym (map_take g ids at (slice_index_or ids at d) (slice_get-get_or ids at d near)) ∙ ap (λ (m : ℕ). map g (take m ids)) next)))

-- why there is no new store, by the step that was refused
pub for_memory : (room passes : ℕ) (s : Store) (why : NoSuccessor) → IsForMemory why → IsNoSuccessor room passes s why
for_memory room passes s (no.RoomTooSmall needed) h = absurd h
for_memory room passes s no.OutOfMemory h = tt
for_memory room passes s (no.Unmade o) h = tt
for_memory room passes s no.Panic h = absurd h

pub not_begun : (room passes : ℕ) (s : Store) (why : NoSuccessor) → IsNotBegun room passes s why → IsNoSuccessor room passes s why
not_begun room passes s (no.RoomTooSmall needed) h = h
not_begun room passes s no.OutOfMemory h = tt
not_begun room passes s (no.Unmade o) h = absurd h
not_begun room passes s no.Panic h = absurd h

-- where all objects are made, none is named
pub begun_named : (room passes : ℕ) (s t : Store) (matrices : List MatrixId) (vectors : List VectorId) (why : NoSuccessor) → IsNotBegun room passes s why → NamesChosen t matrices vectors why
begun_named room passes s t matrices vectors (no.RoomTooSmall needed) h = tt
begun_named room passes s t matrices vectors no.OutOfMemory h = tt
begun_named room passes s t matrices vectors (no.Unmade o) h = absurd h
begun_named room passes s t matrices vectors no.Panic h = absurd h

-- one that was chosen and is named is there
pub names_live : (s : Store) (matrices : List MatrixId) (vectors : List VectorId) (why : NoSuccessor) → NamesChosen s matrices vectors why → NamesLive s why
names_live s matrices vectors (no.RoomTooSmall needed) h = tt
names_live s matrices vectors no.OutOfMemory h = tt
names_live s matrices vectors (no.Unmade (object.Matrix a)) h = h.1
names_live s matrices vectors (no.Unmade (object.Vector v)) h = h.1
names_live s matrices vectors no.Panic h = tt

-- all numbers are chosen
pub length-numbers_below : (n : ℕ) → length (numbers_below n) ≡ n
length-numbers_below zero = refl
length-numbers_below (suc n) = omega (arith, length_push (numbers_below n) n, length-numbers_below n)

object_at-here : {X : Type 0} (xs : List (Option X)) (n : ℕ) → n < length xs → object_at xs n ≡ slice_index_or xs n None
object_at-here [] n lt = absurd (omega arith)
object_at-here (None ∷ xs) zero lt = refl
object_at-here (Some x ∷ xs) zero lt = refl
object_at-here (x ∷ xs) (suc n) lt = object_at-here xs n (omega arith)

all_to : {X : Type 0} (xs : List (Option X)) (n : ℕ) → n ≤ length xs → map (object_at xs) (numbers_below n) ≡ take n xs
all_to [] zero few = refl
all_to (x ∷ xs) zero few = refl
all_to {X} xs (suc n) few =
    let next : n + 1 ≡ suc n = omega arith in
    map_push (object_at xs) (numbers_below n) n
    ∙ (λ i. all_to xs n (omega arith) i ++ object_at-here xs n (omega arith) i ∷ [])
    ∙ sym (take_more xs n None (omega arith)) ∙ ap (λ (m : ℕ). take m xs) next

all_of : {X : Type 0} (xs : List (Option X)) → map (object_at xs) (numbers_below (length xs)) ≡ xs
all_of xs = all_to xs (length xs) (omega arith) ∙ take_all (length xs) xs (omega arith)

matrices_at : (s : Store) (numbers : List ℕ) → map (matrix_at s) (matrix_ids numbers) ≡ map (object_at s.matrices) numbers
matrices_at s [] = refl
matrices_at s (n ∷ ns) = ap (λ (xs : List (Option Matrix)). matrix_at s (record { 0 = n }) ∷ xs) (matrices_at s ns)

vectors_at : (s : Store) (numbers : List ℕ) → map (vector_at s) (vector_ids numbers) ≡ map (object_at s.vectors) numbers
vectors_at s [] = refl
vectors_at s (n ∷ ns) = ap (λ (xs : List (Option Vector)). vector_at s (record { 0 = n }) ∷ xs) (vectors_at s ns)

pub chosen_all : (s : Store) → chosen_store s (matrix_ids (numbers_below (length s.matrices))) (vector_ids (numbers_below (length s.vectors))) ≡ s
chosen_all s = λ i. record {
  matrices = (matrices_at s (numbers_below (length s.matrices)) ∙ all_of s.matrices) i;
  vectors = (vectors_at s (numbers_below (length s.vectors)) ∙ all_of s.vectors) i;
}

-- the numbers below the next one
pub matrix_ids-more : (n : ℕ) → matrix_ids (numbers_below (n + 1)) ≡ matrix_ids (numbers_below n) ++ record { 0 = n } ∷ []
matrix_ids-more n = let next : n + 1 ≡ suc n = omega arith in ap (λ (m : ℕ). matrix_ids (numbers_below m)) next ∙ map_push (λ (k : ℕ). record { 0 = k }) (numbers_below n) n

pub vector_ids-more : (n : ℕ) → vector_ids (numbers_below (n + 1)) ≡ vector_ids (numbers_below n) ++ record { 0 = n } ∷ []
vector_ids-more n = let next : n + 1 ≡ suc n = omega arith in ap (λ (m : ℕ). vector_ids (numbers_below m)) next ∙ map_push (λ (k : ℕ). record { 0 = k }) (numbers_below n) n

abbrev matrix_id : ℕ → MatrixId
matrix_id n = record { 0 = n }

abbrev vector_id : ℕ → VectorId
vector_id n = record { 0 = n }

pub length-matrix_ids : (n : ℕ) → length (matrix_ids (numbers_below n)) ≡ n
length-matrix_ids n = length-map (numbers_below n) matrix_id ∙ length-numbers_below n

pub length-vector_ids : (n : ℕ) → length (vector_ids (numbers_below n)) ≡ n
length-vector_ids n = length-map (numbers_below n) vector_id ∙ length-numbers_below n
