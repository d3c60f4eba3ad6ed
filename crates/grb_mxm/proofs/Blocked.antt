-- A matrix by blocks of rows: which rows a block has, and that blocks one after another are the whole.
use Rattle.std.proofs.Common.{◌≡◌, ◌<◌, ◌≤◌, ℕ, Bool, true, false, not, cond, nat_eq, nat_lt, [], ◌∷◌, ◌++◌, refl, sym, ap, subst, ◌∙◌, arith}
use Rattle.std.specs.Prelude.{◌&&◌, map, filter, All}
use Rattle.std.specs.declared.cmp.Ordering.TheVariants.{Greater}
use Rattle.std.specs.List.{AllByRecursion}
use Rattle.std.specs.Ordering.{nat_cmp, is_lt, ordering_then}
use Rattle.std.specs.Cmp.{nat_cmp_is}
use Rattle.std.specs.FinMap.{is_sorted}
use Rattle.std.specs.FinMap.Entries.{below_all}
use Rattle.std.proofs.lemmas.Bool.Decides.{nat_tests}
use Rattle.std.proofs.lemmas.List.Elements.{All-filter, filter_passes, recursion_from_All}
use lib.Dec.{T}
use Rattle.grb_core.specs.declared.value.Value.{Value}
use Rattle.grb_core.specs.Value.{IsValueOf}
use Rattle.grb_core.specs.Entries.{Cell, cell_cmp, MatrixEntries, VectorEntries, restricted}
use Rattle.grb_core.specs.Contents.{Matrix, IsMatrix, edited_matrix}
use Rattle.grb_core.specs.Results.{row_of}
use Rattle.grb_core.proofs.ResultLaws.{passed}
use Rattle.grb_sums.proofs.Renamed.{passes}
use Rattle.grb_mxm.specs.Rows.{is_between, rows_between}
use Rattle.grb_mxm.proofs.MaskedProduct.{is_sorted-restricted}

fst : (a b : Bool) → T (a && b) → T a
fst true b p = tt
fst false b p = absurd p

snd : (a b : Bool) → T (a && b) → T b
snd true b p = p
snd false b p = absurd p

-- the entries of the rows that pass the test
abbrev pub of_rows : (ℕ → Bool) → MatrixEntries → MatrixEntries
of_rows t m = restricted (λ (q : Cell). t q.0) m

abbrev in_row : Cell × Value → ℕ × Value
in_row e = (e.0.1, e.1)

is_number : (n i : ℕ) → nat_eq n i ≡ true → n ≡ i
is_number n i k = grind (arith, nat_tests)

step : (e : Cell × Value) (m n : MatrixEntries) (b c d : Bool) → (c ≡ true → b ≡ d) → map in_row m ≡ cond d (map in_row n) []
    → map in_row (cond b (cond c (e ∷ m) m) m) ≡ cond d (map in_row (cond c (e ∷ n) n)) []
step e m n true true true h r = ap (λ (x : VectorEntries). in_row e ∷ x) r
step e m n true true false h r = let k = h refl in cc
step e m n true false d h r = r
step e m n false true true h r = let k = h refl in cc
step e m n false true false h r = r
step e m n false false d h r = r

module _ (t : ℕ → Bool) where
  -- a row of these rows is that row, or nothing
  pub row_of_rows : (i : ℕ) (a : MatrixEntries) → row_of i (of_rows t a) ≡ cond (t i) (row_of i a) []
  row_of_rows i [] = none (t i)
    where
      none : (b : Bool) → [] ≡ cond b (row_of i []) []
      none true = refl
      none false = refl
  row_of_rows i (e ∷ a) =
      let g : Cell × Value → Bool = λ x. nat_eq x.0.0 i in
      let kept : MatrixEntries = of_rows t a in
      elim (t e.0.0) as (λ b. t e.0.0 ≡ b → map in_row (filter g (cond b (e ∷ kept) kept)) ≡ cond (t i) (row_of i (e ∷ a)) []) [
        | true ↦ λ h. step e (filter g kept) (filter g a) true (nat_eq e.0.0 i) (t i) (λ k. sym h ∙ ap t (is_number e.0.0 i k)) (row_of_rows i a)
        | false ↦ λ h. step e (filter g kept) (filter g a) false (nat_eq e.0.0 i) (t i) (λ k. sym h ∙ ap t (is_number e.0.0 i k)) (row_of_rows i a)
      ] refl

-- rows rise
row_rises : (p q : Cell) → T (is_lt (cell_cmp p q)) → p.0 ≤ q.0
row_rises p q h =
    elim (nat_lt q.0 p.0) as (λ b. nat_lt q.0 p.0 ≡ b → p.0 ≤ q.0) [
      | true ↦ λ k. let less : q.0 < p.0 = grind (arith, nat_tests) in absurd (subst (λ r. T (is_lt (ordering_then r (nat_cmp p.1 q.1)))) (sym (nat_cmp_is p.0 q.0 Greater less)) h)
      | false ↦ λ k. grind (arith, nat_tests)
    ] refl

above : ℕ → ℕ → Bool
above k i = not (nat_lt i k)

not_lower : (k i j : ℕ) → i ≤ j → nat_lt i k ≡ false → nat_lt j k ≡ false
not_lower k i j le h = grind (arith, nat_tests)

module _ (k : ℕ) where
  none_lower : (x : Cell) (m : MatrixEntries) → nat_lt x.0 k ≡ false → T (below_all cell_cmp x m) → of_rows (λ i. nat_lt i k) m ≡ []
  none_lower x [] s h = refl
  none_lower x (e ∷ m) s h =
      let over : nat_lt e.0.0 k ≡ false = not_lower k x.0 e.0.0 (row_rises x e.0 (fst _ _ h)) s in
      ap (λ b. cond b (e ∷ of_rows (λ i. nat_lt i k) m) (of_rows (λ i. nat_lt i k) m)) over ∙ none_lower x m s (snd _ _ h)

  all_above : (x : Cell) (m : MatrixEntries) → nat_lt x.0 k ≡ false → T (below_all cell_cmp x m) → of_rows (λ i. not (nat_lt i k)) m ≡ m
  all_above x [] s h = refl
  all_above x (e ∷ m) s h =
      let over : nat_lt e.0.0 k ≡ false = not_lower k x.0 e.0.0 (row_rises x e.0 (fst _ _ h)) s in
      ap (λ b. cond (not b) (e ∷ of_rows (λ i. not (nat_lt i k)) m) (of_rows (λ i. not (nat_lt i k)) m)) over ∙ ap (λ (n : MatrixEntries). e ∷ n) (all_above x m s (snd _ _ h))

  -- the rows below a number, and after them those from it on, are all
  pub joined : (m : MatrixEntries) → T (is_sorted cell_cmp m) → of_rows (λ i. nat_lt i k) m ++ of_rows (λ i. not (nat_lt i k)) m ≡ m
  joined [] h = refl
  joined (e ∷ m) h =
      let low : MatrixEntries = of_rows (λ i. nat_lt i k) m in
      let high : MatrixEntries = of_rows (λ i. not (nat_lt i k)) m in
      elim (nat_lt e.0.0 k) as (λ b. nat_lt e.0.0 k ≡ b → cond b (e ∷ low) low ++ cond (not b) (e ∷ high) high ≡ e ∷ m) [
        | true ↦ λ s. ap (λ (n : MatrixEntries). e ∷ n) (joined m (snd _ _ h))
        | false ↦ λ s. ap (λ (n : MatrixEntries). n ++ e ∷ high) (none_lower e.0 m s (fst _ _ h)) ∙ ap (λ (n : MatrixEntries). e ∷ n) (all_above e.0 m s (fst _ _ h))
      ] refl

-- entries that pass one test and then another
passed_twice : (p q r : Cell × Value → Bool) → ((x : Cell × Value) → (q x && p x) ≡ r x) → (xs : MatrixEntries) → filter p (filter q xs) ≡ filter r xs
passed_twice p q r same [] = refl
passed_twice p q r same (x ∷ xs) =
    let kept : MatrixEntries = filter q xs in
    let rest = passed_twice p q r same xs in
    elim (q x) as (λ b. (b && p x) ≡ r x → filter p (cond b (x ∷ kept) kept) ≡ cond (r x) (x ∷ filter r xs) (filter r xs)) [
      | true ↦ λ h. ap (λ b. cond b (x ∷ filter p kept) (filter p kept)) h ∙ ap (λ (ys : MatrixEntries). cond (r x) (x ∷ ys) ys) rest
      | false ↦ λ h. rest ∙ ap (λ b. cond b (x ∷ filter r xs) (filter r xs)) h
    ] (same x)

all_passed : (p : Cell × Value → Bool) (xs : MatrixEntries) → AllByRecursion (λ x. p x ≡ true) xs → filter p xs ≡ xs
all_passed p [] h = refl
all_passed p (x ∷ xs) h = ap (λ b. cond b (x ∷ filter p xs) (filter p xs)) h.0 ∙ ap (λ (ys : MatrixEntries). x ∷ ys) (all_passed p xs h.1)

none_passed : (p : Cell × Value → Bool) (xs : MatrixEntries) → ((x : Cell × Value) → p x ≡ false) → filter p xs ≡ []
none_passed p [] h = refl
none_passed p (x ∷ xs) h = ap (λ b. cond b (x ∷ filter p xs) (filter p xs)) (h x) ∙ none_passed p xs h

below_both : (f u i : ℕ) → f ≤ u → (is_between 0 u i && nat_lt i f) ≡ is_between 0 f i
below_both f u i le = grind (arith, nat_tests)

between_both : (f u i : ℕ) → f ≤ u → (is_between 0 u i && not (nat_lt i f)) ≡ is_between f u i
between_both f u i le = grind (arith, nat_tests)

none_between : (i : ℕ) → is_between 0 0 i ≡ false
none_between i = grind (arith, nat_tests)

is_below : (n i : ℕ) → i < n → is_between 0 n i ≡ true
is_below n i h = grind (arith, nat_tests)

low_part : (f u i : ℕ) → is_between f u i ≡ true → i < u
low_part f u i h = grind (arith, nat_tests)

-- no rows, and rows below a number
pub no_rows : (m : MatrixEntries) → rows_between 0 0 m ≡ []
no_rows m = none_passed (λ (x : Cell × Value). is_between 0 0 x.0.0) m (λ x. none_between x.0.0)

pub rows_below : (f u : ℕ) (m : MatrixEntries) → All (λ e. e.0.0 < u) (rows_between f u m)
rows_below f u m k d h = low_part f u _ (filter_passes (λ (x : Cell × Value). is_between f u x.0.0) m k d h)

-- the rows so far, and a block after them
pub rows_joined : (f u : ℕ) (m : MatrixEntries) → f ≤ u → T (is_sorted cell_cmp m) → rows_between 0 f m ++ rows_between f u m ≡ rows_between 0 u m
rows_joined f u m le h =
    let all : MatrixEntries = rows_between 0 u m in
    let low : of_rows (λ i. nat_lt i f) all ≡ rows_between 0 f m = passed_twice (λ (x : Cell × Value). nat_lt x.0.0 f) (λ (x : Cell × Value). is_between 0 u x.0.0) (λ (x : Cell × Value). is_between 0 f x.0.0) (λ x. below_both f u x.0.0 le) m in
    let high : of_rows (λ i. not (nat_lt i f)) all ≡ rows_between f u m = passed_twice (λ (x : Cell × Value). not (nat_lt x.0.0 f)) (λ (x : Cell × Value). is_between 0 u x.0.0) (λ (x : Cell × Value). is_between f u x.0.0) (λ x. between_both f u x.0.0 le) m in
    sym (ap (λ (x : MatrixEntries). x ++ of_rows (λ i. not (nat_lt i f)) all) low ∙ ap (λ (x : MatrixEntries). rows_between 0 f m ++ x) high)
    ∙ joined f all (is_sorted-restricted cell_cmp (λ (q : Cell). is_between 0 u q.0) m h)

-- all rows, where all are below a number
pub rows_whole : (n : ℕ) (m : MatrixEntries) → All (λ e. e.0.0 < n) m → rows_between 0 n m ≡ m
rows_whole n m h =
    all_passed (λ (x : Cell × Value). is_between 0 n x.0.0) m
    (recursion_from_All (λ (x : Cell × Value). is_between 0 n x.0.0 ≡ true) m (λ k d lt. is_below n _ (h k d lt)))

-- a row outside of a part of the rows is empty there, and one inside is the same
pub row_outside : (f u i : ℕ) (a : MatrixEntries) → is_between f u i ≡ false → row_of i (rows_between f u a) ≡ []
row_outside f u i a h = row_of_rows (is_between f u) i a ∙ ap (λ b. cond b (row_of i a) []) h

pub row_inside : (f u i : ℕ) (a : MatrixEntries) → is_between f u i ≡ true → row_of i (rows_between f u a) ≡ row_of i a
row_inside f u i a h = row_of_rows (is_between f u) i a ∙ ap (λ b. cond b (row_of i a) []) h

-- a row that is empty is empty in a part
pub no_row : (f u i : ℕ) (a : MatrixEntries) → row_of i a ≡ [] → row_of i (rows_between f u a) ≡ []
no_row f u i a h = row_of_rows (is_between f u) i a ∙ both (is_between f u i)
  where
    both : (b : Bool) → cond b (row_of i a) [] ≡ []
    both true = h
    both false = refl

pub sorted_part : (f u : ℕ) (a : MatrixEntries) → T (is_sorted cell_cmp a) → T (is_sorted cell_cmp (rows_between f u a))
sorted_part f u a h = is_sorted-restricted cell_cmp (λ (q : Cell). is_between f u q.0) a h

-- a part of a matrix is a matrix
pub part_whole : (f u : ℕ) (m : Matrix) → IsMatrix m → IsMatrix (edited_matrix (rows_between f u) m)
part_whole f u m h = record {
  nrows = h.nrows;
  ncols = h.ncols;
  ordered = passes _ (sorted_part f u m.entries (passed _ h.ordered));
  within = All-filter (λ (e : Cell × Value). is_between f u e.0.0) (λ e. (e.0.0 < m.nrows) × (e.0.1 < m.ncols)) m.entries h.within;
  of_domain = All-filter (λ (e : Cell × Value). is_between f u e.0.0) (λ e. IsValueOf m.domain e.1) m.entries h.of_domain;
}

same_twice : (b : Bool) → (b && b) ≡ b
same_twice true = refl
same_twice false = refl

-- these rows of these rows
pub between_twice : (f u : ℕ) (m : MatrixEntries) → rows_between f u (rows_between f u m) ≡ rows_between f u m
between_twice f u m =
    passed_twice (λ (x : Cell × Value). is_between f u x.0.0) (λ (x : Cell × Value). is_between f u x.0.0) (λ (x : Cell × Value). is_between f u x.0.0) (λ x. same_twice (is_between f u x.0.0)) m
