-- Entries at the names of their places: names that rise change no order.
use Rattle.std.proofs.Common.{◌≡◌, ℕ, zero, suc, ◌<◌, ◌%◌, Bool, true, false, cond, List, [], ◌∷◌, refl, sym, ap, subst, ◌∙◌, take, drop, inl, inr}
use Rattle.std.specs.Prelude.{◌&&◌, Some, IsTrue, map}
use Rattle.std.specs.List.{AllByRecursion}
use Rattle.std.specs.declared.cmp.Ordering.TheVariants.{Less, Equal, Greater}
use Rattle.std.specs.Ordering.{nat_cmp, is_lt, is_eq}
use Rattle.std.specs.Cmp.{nat_cmp_is}
use Rattle.std.specs.FinMap.{is_sorted, find}
use Rattle.std.specs.FinMap.Entries.{below_all}
use Rattle.std.proofs.lemmas.Bool.{cases_order}
use lib.Dec.{T}
use Rattle.grb_core.specs.declared.value.Value.{Value}
use Rattle.grb_core.specs.Entries.{VectorEntries, values_of}
use Rattle.grb_kernels.specs.Typed.{entries_of}
use Rattle.grb_lists.specs.Cells.{decoded, in_row}
use Rattle.grb_ewise.proofs.Lent.{lent}
use Rattle.grb_sums.specs.Naming.{renamed}

and : (a b : Bool) → T a → T b → T (a && b)
and true b p q = q
and false b p q = absurd p

fst : (a b : Bool) → T (a && b) → T a
fst true b p = tt
fst false b p = absurd p

snd : (a b : Bool) → T (a && b) → T b
snd true b p = p
snd false b p = absurd p

pub passes : (b : Bool) → T b → IsTrue b
passes true h = refl
passes false h = absurd h

pub holds : (b : Bool) → IsTrue b → T b
holds b e = subst T (sym e) tt

-- names below a number rise
abbrev pub RiseBelow : ℕ → (ℕ → ℕ) → Type 0
RiseBelow n name = (i j : ℕ) → i < j → j < n → name i < name j

module _ (n : ℕ) (name : ℕ → ℕ) (rise : RiseBelow n name) where
  -- they stand as their places do
  pub cmp-named : (p r : ℕ) → p < n → r < n → nat_cmp (name p) (name r) ≡ nat_cmp p r
  cmp-named p r h k =
      elim (cases_order p r) [
        | inl e ↦ sym (nat_cmp_is (name p) (name r) Equal (ap name e)) ∙ nat_cmp_is p r Equal e
        | inr (inl l) ↦ sym (nat_cmp_is (name p) (name r) Less (rise p r l k)) ∙ nat_cmp_is p r Less l
        | inr (inr l) ↦ sym (nat_cmp_is (name p) (name r) Greater (rise r p l h)) ∙ nat_cmp_is p r Greater l
      ]

  module _ {V : Type 0} (value : V → Value) where
    below-unnamed : (k : ℕ) (rs : List ℕ) (vs : List V) → k < n → AllByRecursion (λ r. r < n) rs → T (below_all nat_cmp (name k) (renamed name (entries_of value rs vs))) → T (below_all nat_cmp k (entries_of value rs vs))
    below-unnamed k [] vs l h t = tt
    below-unnamed k (r ∷ rs) [] l h t = tt
    below-unnamed k (r ∷ rs) (v ∷ vs) l h t = and _ _ (subst (λ o. T (is_lt o)) (cmp-named k r l h.0) (fst _ _ t)) (below-unnamed k rs vs l h.1 (snd _ _ t))

    pub sorted-unnamed : (rs : List ℕ) (vs : List V) → AllByRecursion (λ r. r < n) rs → T (is_sorted nat_cmp (renamed name (entries_of value rs vs))) → T (is_sorted nat_cmp (entries_of value rs vs))
    sorted-unnamed [] vs h t = tt
    sorted-unnamed (r ∷ rs) [] h t = tt
    sorted-unnamed (r ∷ rs) (v ∷ vs) h t = and _ _ (below-unnamed r rs vs h.0 h.1 (fst _ _ t)) (sorted-unnamed rs vs h.1 (snd _ _ t))

    -- what is stored at a place is stored at its name
    pub find-renamed : (p : ℕ) (rs : List ℕ) (vs : List V) → p < n → AllByRecursion (λ r. r < n) rs → find nat_cmp p (entries_of value rs vs) ≡ find nat_cmp (name p) (renamed name (entries_of value rs vs))
    find-renamed p [] vs l h = refl
    find-renamed p (r ∷ rs) [] l h = refl
    find-renamed p (r ∷ rs) (v ∷ vs) l h =
        ap (λ o. cond (is_eq o) (Some (value v)) (find nat_cmp p (entries_of value rs vs))) (sym (cmp-named p r l h.0))
        ∙ ap (cond (is_eq (nat_cmp (name p) (name r))) (Some (value v))) (find-renamed p rs vs l h.1)

pub renamed-entries : {V : Type 0} (value : V → Value) (name : ℕ → ℕ) (rs : List ℕ) (vs : List V) → renamed name (entries_of value rs vs) ≡ entries_of value (map name rs) vs
renamed-entries value name [] vs = refl
renamed-entries value name (r ∷ rs) [] = refl
renamed-entries value name (r ∷ rs) (v ∷ vs) = ap (λ (m : VectorEntries). (name r, value v) ∷ m) (renamed-entries value name rs vs)

map_nil : {A B : Type 0} (f : A → B) (s : ℕ) → map f (drop s []) ≡ drop s []
map_nil f zero = refl
map_nil f (suc s) = refl

pub map-part : {A B : Type 0} (f : A → B) (s e : ℕ) (xs : List A) → map f (drop s (take e xs)) ≡ drop s (take e (map f xs))
map-part f s zero [] = map_nil f s
map-part f s (suc e) [] = map_nil f s
map-part f s zero (x ∷ xs) = map_nil f s
map-part f zero (suc e) (x ∷ xs) = ap (λ (t : List _). f x ∷ t) (map-part f zero e xs)
map-part f (suc s) (suc e) (x ∷ xs) = map-part f s e xs

-- the columns of entries, and those of one row
pub columns-decoded : (m : VectorEntries) → map (λ e. e.0.1) (decoded m) ≡ map (λ (e : ℕ × Value). e.0 % 4294967296) m
columns-decoded [] = refl
columns-decoded (e ∷ m) = ap (λ (t : List ℕ). e.0 % 4294967296 ∷ t) (columns-decoded m)

pub columns-in_row : (m : VectorEntries) → map (λ e. e.0) (in_row m) ≡ map (λ (e : ℕ × Value). e.0 % 4294967296) m
columns-in_row [] = refl
columns-in_row (e ∷ m) = ap (λ (t : List ℕ). e.0 % 4294967296 ∷ t) (columns-in_row m)

-- the named ranks of one row are its columns
pub row-named : (name : ℕ → ℕ) (ranks rs : List ℕ) (m : VectorEntries) (row : VectorEntries) (s e : ℕ) → map name ranks ≡ map (λ e. e.0.1) (decoded m) → rs ≡ drop s (take e ranks) → row ≡ in_row (drop s (take e m))
    → map name rs ≡ map (λ e. e.0) row
row-named name ranks rs m row s e named is row_is =
    ap (map name) is
    ∙ map-part name s e ranks
    ∙ ap (λ (t : List ℕ). drop s (take e t)) (named ∙ columns-decoded m)
    ∙ sym (map-part (λ (e : ℕ × Value). e.0 % 4294967296) s e m)
    ∙ sym (columns-in_row (drop s (take e m)))
    ∙ ap (map (λ e. e.0)) (sym row_is)

pub row-renamed : {V : Type 0} (value : V → Value) (name : ℕ → ℕ) (rs : List ℕ) (vs : List V) (row : VectorEntries) → map name rs ≡ map (λ e. e.0) row → map value vs ≡ values_of row
    → renamed name (entries_of value rs vs) ≡ row
row-renamed value name rs vs row p q = renamed-entries value name rs vs ∙ lent value (map name rs) vs row p q

all_taken : (P : ℕ → Type 0) (e : ℕ) (xs : List ℕ) → AllByRecursion P xs → AllByRecursion P (take e xs)
all_taken P zero [] h = tt
all_taken P zero (x ∷ xs) h = tt
all_taken P (suc e) [] h = tt
all_taken P (suc e) (x ∷ xs) h = (h.0, all_taken P e xs h.1)

all_dropped : (P : ℕ → Type 0) (s : ℕ) (xs : List ℕ) → AllByRecursion P xs → AllByRecursion P (drop s xs)
all_dropped P zero xs h = h
all_dropped P (suc s) [] h = tt
all_dropped P (suc s) (x ∷ xs) h = all_dropped P s xs h.1

-- what holds of all holds of a part
pub all-part : (P : ℕ → Type 0) (xs ys : List ℕ) (s e : ℕ) → ys ≡ drop s (take e xs) → AllByRecursion P xs → AllByRecursion P ys
all-part P xs ys s e is h = subst (λ (m : List ℕ). AllByRecursion P m) (sym is) (all_dropped P s (take e xs) (all_taken P e xs h))
