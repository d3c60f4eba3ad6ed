-- Flat lists of a product that are made row by row.
use Rattle.std.proofs.Common.{◌≡◌, ℕ, zero, suc, ◌+◌, ◌<◌, ◌≤◌, List, [], ◌∷◌, ◌++◌, length, get_or, take, drop, refl, sym, ap, subst, ◌∙◌, arith, append_assoc, inl, inr}
use Rattle.std.specs.Prelude.{◌⊎◌}
use Rattle.std.proofs.lemmas.Bool.{cases_eq}
use Rattle.std.proofs.lemmas.List.{drop_all, length_push, length-append, get_or_append_left}
use Rattle.std.proofs.Math.Seq.{get_or-append_seam}
use Rattle.std.specs.FinMap.{is_sorted}
use lib.Dec.{T}
use Rattle.grb_core.specs.declared.value.Value.{Value}
use Rattle.grb_core.specs.Entries.{VectorEntries, MatrixEntries, cell_cmp}
use Rattle.grb_core.specs.Results.{row_of}
use Rattle.grb_kernels.specs.Typed.{entries_of}
use Rattle.grb_kernels.proofs.Lists.{append_nil}
use Rattle.grb_lists.specs.Cells.{IsFlat}
use Rattle.grb_ewise.specs.Rows.{flat_entries}
use Rattle.grb_ewise.proofs.MatrixRows.{with_row, rows_from, rows_from-more, rows_from-all}
use Rattle.grb_ewise.proofs.PushedRows.{entries-pushed_row, flat-pushed_row}

pub same_taken : {V : Type 0} (n : ℕ) (xs : List ℕ) (ys : List V) → length xs ≡ length ys → length (take n xs) ≡ length (take n ys)
same_taken zero xs ys e = refl
same_taken (suc n) [] [] e = refl
same_taken (suc n) [] (y ∷ ys) e = absurd (omega arith)
same_taken (suc n) (x ∷ xs) [] e = absurd (omega arith)
same_taken (suc n) (x ∷ xs) (y ∷ ys) e = ap suc (same_taken n xs ys (omega arith))

-- the rows of a matrix before a place of a list of their numbers are made
pub record IsMaking {V : Type 0} (tv : V → Value) (p : MatrixEntries) (numbers : List ℕ) (place : ℕ) (rows starts columns : List ℕ) (values : List V) : Type 0 where
  pub flat : IsFlat rows starts columns
  pub same : length columns ≡ length values
  pub below : (n m : ℕ) → n < length rows → place ≤ m → m < length numbers → get_or rows n 0 < get_or numbers m 0
  pub so_far : flat_entries tv rows starts columns values ++ rows_from p (drop place numbers) ≡ p

flat_nothing : IsFlat [] [] []
flat_nothing = record {
  same = refl;
  some = λ h. absurd (omega (arith, h));
  first = refl;
  rise = λ i j l h. absurd (omega (arith, h));
  rows_rise = λ i j l h. absurd (omega (arith, h));
  inside = λ i l. absurd (omega (arith, l));
  fit = λ i l. absurd (omega (arith, l));
}

module _ {V : Type 0} (tv : V → Value) (p : MatrixEntries) (numbers : List ℕ) (rise : (i j : ℕ) → i < j → j < length numbers → get_or numbers i 0 < get_or numbers j 0) where
  pub making_begins : (rows starts columns : List ℕ) (values : List V) → rows ≡ [] → starts ≡ [] → columns ≡ [] → values ≡ [] → T (is_sorted cell_cmp p)
      → ((i : ℕ) → ((k : ℕ) → k < length numbers → get_or numbers k 0 ≡ i → ⊥) → row_of i p ≡ []) → IsMaking tv p numbers 0 rows starts columns values
  making_begins rows starts columns values no_rows no_starts no_columns no_values sorted all =
      subst (λ (x : List ℕ). IsMaking tv p numbers 0 x starts columns values) (sym no_rows)
      (subst (λ (x : List ℕ). IsMaking tv p numbers 0 [] x columns values) (sym no_starts)
      (subst (λ (x : List ℕ). IsMaking tv p numbers 0 [] [] x values) (sym no_columns)
      (subst (λ (x : List V). IsMaking tv p numbers 0 [] [] [] x) (sym no_values)
      (record {
        flat = flat_nothing;
        same = refl;
        below = λ n m l u v. absurd (omega (arith, l));
        so_far = rows_from-all p sorted numbers rise all;
      }))))

  module _ (place : ℕ) (rows starts columns rows2 starts2 columns2 js : List ℕ) (values values2 ws : List V) (before : IsMaking tv p numbers place rows starts columns values) (lt : place < length numbers)
      (fit : (i : ℕ) → i < length js → get_or js i 0 < 4294967296) (long : length js ≡ length ws) (made : entries_of tv js ws ≡ row_of (get_or numbers place 0) p)
      (rows_pushed : 0 < length js → rows2 ≡ rows ++ get_or numbers place 0 ∷ []) (starts_pushed : 0 < length js → starts2 ≡ starts ++ length columns ∷ [])
      (rows_same : length js ≡ 0 → rows2 ≡ rows) (starts_same : length js ≡ 0 → starts2 ≡ starts) (columns_are : columns2 ≡ columns ++ js) (values_are : values2 ≡ values ++ ws) where
    abbrev pub r : ℕ
    r = get_or numbers place 0

    abbrev pub out : MatrixEntries
    out = flat_entries tv rows starts columns values

    below_this : (n : ℕ) → n < length rows → get_or rows n 0 < r
    below_this n l = before.below n place l (omega arith) lt

    pub record IsPushed : Type 0 where
      pub is_flat : IsFlat rows2 starts2 columns2
      pub entries : flat_entries tv rows2 starts2 columns2 values2 ≡ out ++ with_row r (entries_of tv js ws)
      pub each : (n : ℕ) → n < length rows2 → ((n < length rows) × (get_or rows2 n 0 ≡ get_or rows n 0)) ⊎ (get_or rows2 n 0 ≡ r)

    empty : (xs : List ℕ) → length xs ≡ 0 → xs ≡ []
    empty [] e = refl
    empty (x ∷ xs) e = absurd (omega arith)

    empty_values : (xs : List V) → length xs ≡ 0 → xs ≡ []
    empty_values [] e = refl
    empty_values (x ∷ xs) e = absurd (omega arith)

    pushed_none : length js ≡ 0 → IsPushed
    pushed_none e =
        let no_js = empty js e in
        let no_ws = empty_values ws (sym long ∙ e) in
        let columns_same : columns2 ≡ columns = columns_are ∙ ap (λ (s : List ℕ). columns ++ s) no_js ∙ append_nil columns in
        let values_same : values2 ≡ values = values_are ∙ ap (λ (s : List V). values ++ s) no_ws ∙ append_nil values in
        record {
          is_flat = subst (λ (s : List ℕ). IsFlat s starts2 columns2) (sym (rows_same e)) (subst (λ (s : List ℕ). IsFlat rows s columns2) (sym (starts_same e)) (subst (IsFlat rows starts) (sym columns_same) before.flat));
          entries = ap (λ (s : List ℕ). flat_entries tv s starts2 columns2 values2) (rows_same e)
              ∙ ap (λ (s : List ℕ). flat_entries tv rows s columns2 values2) (starts_same e)
              ∙ ap (λ (s : List ℕ). flat_entries tv rows starts s values2) columns_same
              ∙ ap (flat_entries tv rows starts columns) values_same
              ∙ sym (append_nil out)
              ∙ ap (λ (m : VectorEntries). out ++ with_row r m) (sym (ap (λ (s : List ℕ). entries_of tv s ws) no_js));
          each = λ n l. inl (subst (λ (s : List ℕ). n < length s) (rows_same e) l, ap (λ (s : List ℕ). get_or s n 0) (rows_same e));
        }

    pushed_some : 0 < length js → IsPushed
    pushed_some l = record {
      is_flat = subst (λ (s : List ℕ). IsFlat s starts2 columns2) (sym (rows_pushed l))
          (subst (λ (s : List ℕ). IsFlat (rows ++ r ∷ []) s columns2) (sym (starts_pushed l))
          (subst (IsFlat (rows ++ r ∷ []) (starts ++ length columns ∷ [])) (sym columns_are) (flat-pushed_row tv rows starts columns values r js ws before.flat fit l below_this)));
      entries = ap (λ (s : List ℕ). flat_entries tv s starts2 columns2 values2) (rows_pushed l)
          ∙ ap (λ (s : List ℕ). flat_entries tv (rows ++ r ∷ []) s columns2 values2) (starts_pushed l)
          ∙ ap (λ (s : List ℕ). flat_entries tv (rows ++ r ∷ []) (starts ++ length columns ∷ []) s values2) columns_are
          ∙ ap (flat_entries tv (rows ++ r ∷ []) (starts ++ length columns ∷ []) (columns ++ js)) values_are
          ∙ entries-pushed_row tv rows starts columns values r js ws before.flat fit before.same;
      each = λ n m.
          let more : length rows2 ≡ length rows + 1 = ap length (rows_pushed l) ∙ length_push rows r in
          elim (cases_eq n (length rows)) [
            | inl e ↦ inr (ap (λ (s : List ℕ). get_or s n 0) (rows_pushed l) ∙ ap (λ p. get_or (rows ++ r ∷ []) p 0) e ∙ get_or-append_seam rows r [] 0)
            | inr e ↦
                let u : n < length rows = omega (arith, m, more, e) in
                inl (u, ap (λ (s : List ℕ). get_or s n 0) (rows_pushed l) ∙ get_or_append_left rows (r ∷ []) 0 n u)
          ];
    }

    is_pushed : IsPushed
    is_pushed = elim (cases_eq (length js) 0) [ inl e ↦ pushed_none e | inr n ↦ pushed_some (some (length js) n) ]
      where
        some : (n : ℕ) → (n ≡ 0 → ⊥) → 0 < n
        some n h = omega (arith, h)

    -- one more row
    pub made_row : IsMaking tv p numbers (place + 1) rows2 starts2 columns2 values2
    made_row = record {
      flat = is_pushed.is_flat;
      same =
          let c = ap length columns_are ∙ length-append columns js in
          let v = ap length values_are ∙ length-append values ws in
          let s = before.same in
          omega (arith, c, v, s, long);
      below = λ n m l u v. elim (is_pushed.each n l) [
        | inl h ↦ let b = before.below n m h.0 (omega (arith, u)) v in let e = h.1 in omega (arith, b, e)
        | inr e ↦ let b = rise place m (omega (arith, u)) v in omega (arith, b, e)
      ];
      so_far = ap (λ (m : MatrixEntries). m ++ rows_from p (drop (place + 1) numbers)) (is_pushed.entries ∙ ap (λ (m : VectorEntries). out ++ with_row r m) made)
          ∙ append_assoc out (with_row r (row_of r p)) (rows_from p (drop (place + 1) numbers))
          ∙ ap (λ (m : MatrixEntries). out ++ m) (sym (rows_from-more p numbers place lt))
          ∙ before.so_far;
    }

  -- after the last row all is made
  pub making_ends : (place : ℕ) (rows starts columns : List ℕ) (values : List V) → IsMaking tv p numbers place rows starts columns values → length numbers ≤ place → flat_entries tv rows starts columns values ≡ p
  making_ends place rows starts columns values held past =
      sym (append_nil (flat_entries tv rows starts columns values))
      ∙ ap (λ (m : MatrixEntries). flat_entries tv rows starts columns values ++ m) (sym (ap (rows_from p) (drop_all place numbers past)))
      ∙ held.so_far
