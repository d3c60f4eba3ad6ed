-- Rows of a matrix put after flat lists of rows that are before them.
use Rattle.std.proofs.Common.{◌≡◌, ℕ, suc, ◌+◌, ◌-◌, ◌<◌, ◌≤◌, Bool, true, false, cond, nat_eq, List, [], ◌∷◌, ◌++◌, length, get_or, take, drop, refl, sym, ap, subst, ◌∙◌, arith, inl, inr}
use Rattle.std.specs.Prelude.{All, filter, map}
use Rattle.std.specs.List.{AllByRecursion}
use Rattle.std.proofs.lemmas.Bool.{cases_eq}
use Rattle.std.proofs.lemmas.Bool.Decides.{nat_tests}
use Rattle.std.proofs.lemmas.List.{map-append, length_push, get_or_append_left, get_or-take, get_or-drop, length-take-le, length-drop}
use Rattle.std.proofs.lemmas.List.Elements.{filter-append, recursion_from_All}
use Rattle.std.proofs.Math.Seq.{get_or-append_seam}
use Rattle.std.specs.FinMap.{is_sorted}
use lib.Dec.{T}
use Rattle.grb_core.specs.declared.value.Value.{Value}
use Rattle.grb_core.specs.Entries.{Cell, VectorEntries, MatrixEntries, cell_cmp}
use Rattle.grb_core.specs.Results.{row_of}
use Rattle.grb_ewise.specs.Rows.{flat_entries}
use Rattle.grb_ewise.proofs.MatrixRows.{with_row, rows_from, rows_from-all}
use Rattle.grb_mxm.proofs.Making.{IsMaking}
use Rattle.grb_mxm.specs.Rows.{AreBelow, is_between, rows_between}
use Rattle.grb_mxm.proofs.Blocked.{row_outside, row_inside, no_row, sorted_part}

abbrev in_its_row : Cell × Value → ℕ × Value
in_its_row e = (e.0.1, e.1)

row_of-append : (i : ℕ) (a b : MatrixEntries) → row_of i (a ++ b) ≡ row_of i a ++ row_of i b
row_of-append i a b =
    let g : Cell × Value → Bool = λ x. nat_eq x.0.0 i in
    ap (map in_its_row) (filter-append g a b) ∙ map-append in_its_row (filter g a) (filter g b)

none_kept : (p : Cell × Value → Bool) (xs : MatrixEntries) → AllByRecursion (λ x. p x ≡ false) xs → filter p xs ≡ []
none_kept p [] h = refl
none_kept p (x ∷ xs) h = ap (λ b. cond b (x ∷ filter p xs) (filter p xs)) h.0 ∙ none_kept p xs h.1

other_row : (n i f : ℕ) → n < f → f ≤ i → nat_eq n i ≡ false
other_row n i f l m = grind (arith, nat_tests)

-- a row from a number on is empty where all rows are below it
row_of-below : (i f : ℕ) (w : MatrixEntries) → All (λ e. e.0.0 < f) w → f ≤ i → row_of i w ≡ []
row_of-below i f w h m =
    ap (map in_its_row)
    (none_kept (λ (x : Cell × Value). nat_eq x.0.0 i) w (recursion_from_All (λ (x : Cell × Value). nat_eq x.0.0 i ≡ false) w (λ k d l. other_row _ i f (h k d l) m)))

-- and so it is that of what comes after them
pub row_of-after : (i f : ℕ) (w part : MatrixEntries) → All (λ e. e.0.0 < f) w → f ≤ i → row_of i (w ++ part) ≡ row_of i part
row_of-after i f w part h m = row_of-append i w part ∙ ap (λ (x : VectorEntries). x ++ row_of i part) (row_of-below i f w h m)

pub rows_from-same : (p q : MatrixEntries) (ns : List ℕ) → ((k : ℕ) → k < length ns → row_of (get_or ns k 0) p ≡ row_of (get_or ns k 0) q) → rows_from p ns ≡ rows_from q ns
rows_from-same p q [] h = refl
rows_from-same p q (r ∷ ns) h =
    ap (λ (x : VectorEntries). with_row r x ++ rows_from p ns) (h 0 (omega arith))
    ∙ ap (λ (m : MatrixEntries). with_row r (row_of r q) ++ m) (rows_from-same p q ns (λ k l. h (suc k) (omega arith)))

-- the rows from one up to another that are listed have all that is between
module _ (a : MatrixEntries) (ordered : T (is_sorted cell_cmp a)) (f u : ℕ) (ns : List ℕ) (rise : (i j : ℕ) → i < j → j < length ns → get_or ns i 0 < get_or ns j 0)
    (all : (i : ℕ) → f ≤ i → i < u → ((k : ℕ) → k < length ns → get_or ns k 0 ≡ i → ⊥) → row_of i a ≡ []) where
  between_is : (i : ℕ) → is_between f u i ≡ true → (f ≤ i) × (i < u)
  between_is i h = (grind (arith, nat_tests), grind (arith, nat_tests))

  unlisted : (i : ℕ) → ((k : ℕ) → k < length ns → get_or ns k 0 ≡ i → ⊥) → row_of i (rows_between f u a) ≡ []
  unlisted i none =
      elim (is_between f u i) as (λ b. is_between f u i ≡ b → row_of i (rows_between f u a) ≡ []) [
        | true ↦ λ h. no_row f u i a (all i (between_is i h).0 (between_is i h).1 none)
        | false ↦ λ h. row_outside f u i a h
      ] refl

  pub rows_listed : rows_from (rows_between f u a) ns ≡ rows_between f u a
  rows_listed = rows_from-all (rows_between f u a) (sorted_part f u a ordered) ns rise unlisted

  module _ {V : Type 0} (tv : V → Value) (rows starts columns : List ℕ) (values : List V) (lists : AreBelow f rows starts columns values)
      (below : All (λ e. e.0.0 < f) (flat_entries tv rows starts columns values)) (from : (k : ℕ) → k < length ns → f ≤ get_or ns k 0) where
    -- before the first of these rows
    pub joining_begins : IsMaking tv (flat_entries tv rows starts columns values ++ rows_between f u a) ns 0 rows starts columns values
    joining_begins =
        let w = flat_entries tv rows starts columns values in
        let part = rows_between f u a in
        record {
          flat = lists.flat;
          same = lists.same;
          below = λ n m l g h. let b = lists.below n l in let c = from m h in omega (arith, b, c);
          so_far = ap (λ (m : MatrixEntries). w ++ m) (rows_from-same (w ++ part) part ns (λ k l. row_of-after (get_or ns k 0) f w part below (from k l)) ∙ rows_listed);
        }

-- a row that lies between is that of the matrix
pub row_joined : (a w : MatrixEntries) (f u i : ℕ) → All (λ e. e.0.0 < f) w → f ≤ i → i < u → row_of i (w ++ rows_between f u a) ≡ row_of i a
row_joined a w f u i h low high =
    row_of-after i f w (rows_between f u a) h low ∙ row_inside f u i a (is_inside f u i low high)
  where
    is_inside : (f u i : ℕ) → f ≤ i → i < u → is_between f u i ≡ true
    is_inside f u i l m = grind (arith, nat_tests)

-- one more row is below a number, as those before it are
pub below_pushed : (rows rows2 : List ℕ) (r count upto : ℕ) → (0 < count → rows2 ≡ rows ++ r ∷ []) → (count ≡ 0 → rows2 ≡ rows) → r < upto
    → ((n : ℕ) → n < length rows → get_or rows n 0 < upto) → (n : ℕ) → n < length rows2 → get_or rows2 n 0 < upto
below_pushed rows rows2 r count upto pushed same lt before n l =
    elim (cases_eq count 0) [
      | inl e ↦ let b = before n (subst (λ (s : List ℕ). n < length s) (same e) l) in subst (λ (s : List ℕ). get_or s n 0 < upto) (sym (same e)) b
      | inr d ↦
          let is = pushed (some count d) in
          let long : length rows2 ≡ length rows + 1 = ap length is ∙ length_push rows r in
          subst (λ (s : List ℕ). get_or s n 0 < upto) (sym is) (at (length rows) refl (omega (arith, l, long)))
    ]
  where
    some : (n : ℕ) → (n ≡ 0 → ⊥) → 0 < n
    some n h = omega (arith, h)

    at : (m : ℕ) → m ≡ length rows → n < m + 1 → get_or (rows ++ r ∷ []) n 0 < upto
    at m e h = elim (cases_eq n m) [
      | inl q ↦ let v = ap (λ p. get_or (rows ++ r ∷ []) p 0) (q ∙ e) ∙ get_or-append_seam rows r [] 0 in omega (arith, v, lt)
      | inr q ↦ let u : n < length rows = omega (arith, h, e, q) in let v = get_or_append_left rows (r ∷ []) 0 n u in let b = before n u in omega (arith, v, b)
    ]

-- what stands in a part of a list
pub part_long : (xs : List ℕ) (s e : ℕ) → s ≤ e → e ≤ length xs → length (take (e - s) (drop s xs)) ≡ e - s
part_long xs s e le within = length-take-le (e - s) (drop s xs) (let d = length-drop s xs in omega (arith, d))

pub part_at : (xs : List ℕ) (s e k : ℕ) → k < e - s → get_or (take (e - s) (drop s xs)) k 0 ≡ get_or xs (s + k) 0
part_at xs s e k l = get_or-take (e - s) (drop s xs) k 0 l ∙ get_or-drop s xs k 0

-- lists that have no rows have no entries
pub no_entries : {V : Type 0} (tv : V → Value) (f : ℕ) (rows starts columns : List ℕ) (values : List V) → AreBelow f rows starts columns values → length rows ≡ 0 → flat_entries tv rows starts columns values ≡ []
no_entries tv f (r ∷ rows) starts columns values h e = absurd (omega (arith, e))
no_entries tv f [] (s ∷ starts) columns values h e = let q = h.flat.same in absurd (omega (arith, q))
no_entries tv f [] [] (c ∷ columns) values h e = let q = h.flat.some (omega arith) in absurd (omega (arith, q))
no_entries tv f [] [] [] (v ∷ values) h e = let q = h.same in absurd (omega (arith, q))
no_entries tv f [] [] [] [] h e = refl
