-- One turn of the loop over the rows of a matrix, of each of which something is made by itself.
use Rattle.std.proofs.Common.{◌≡◌, ℕ, suc, ◌+◌, ◌<◌, ◌≤◌, List, [], ◌∷◌, ◌++◌, length, get_or, drop, refl, sym, ap, subst, ◌∙◌, arith, append_assoc, inl, inr}
use Rattle.std.specs.Prelude.{Option, Some, None, ◌⊎◌}
use Rattle.std.proofs.lemmas.Bool.{cases_eq}
use Rattle.std.proofs.lemmas.List.{length_push, length-append, length-map, drop_all, get_or_append_left}
use Rattle.std.proofs.Math.Seq.{get_or-append_seam}
use Rattle.grb_core.specs.declared.value.Value.{Value}
use Rattle.grb_core.specs.Entries.{Cell, VectorEntries, MatrixEntries, before_entries}
use Rattle.grb_core.specs.Results.{row_of}
use Rattle.grb_kernels.specs.Typed.{entries_of}
use Rattle.grb_kernels.proofs.Lists.{append_nil}
use Rattle.grb_lists.specs.Cells.{IsFlat}
use Rattle.grb_ewise.specs.Rows.{flat_entries}
use Rattle.grb_ewise.proofs.MatrixRows.{with_row, rows_from, rows_from-more}
use Rattle.grb_ewise.proofs.PushedRows.{entries-pushed_row, flat-pushed_row}
use Rattle.grb_core.specs.Each.{each_made}
use Rattle.grb_core.proofs.Each.{each-append}

-- what is made of the entries of one row
pub each-with_row : (g : Cell → Value → Option Value) (r : ℕ) (x : VectorEntries) → each_made g (with_row r x) ≡ with_row r (each_made (λ j v. g (r, j) v) x)
each-with_row g r [] = refl
each-with_row g r (e ∷ x) =
    ap (before_entries (r, e.0) (g (r, e.0) e.1)) (each-with_row g r x)
    ∙ elim (g (r, e.0) e.1) as (λ w. before_entries (r, e.0) w (with_row r (each_made (λ j v. g (r, j) v) x)) ≡ with_row r (before_entries e.0 w (each_made (λ j v. g (r, j) v) x))) [
      | None ↦ refl
      | Some v ↦ refl
    ]

-- what is made of a matrix, by row, column and value
abbrev pub all_made : (ℕ → ℕ → Value → Option Value) → MatrixEntries → MatrixEntries
all_made g m = each_made (λ c v. g c.0 c.1 v) m

none_of : {A : Type 0} (xs : List A) → length xs ≡ 0 → xs ≡ []
none_of [] e = refl
none_of (x ∷ xs) e = absurd (omega (arith, e))

-- the entries of two lists are as many as either has
pub length-entries : {V : Type 0} (value : V → Value) (ks : List ℕ) (vs : List V) → length ks ≡ length vs → length (entries_of value ks vs) ≡ length ks
length-entries value [] vs e = refl
length-entries value (k ∷ ks) [] e = absurd (omega (arith, e))
length-entries value (k ∷ ks) (v ∷ vs) e = ap suc (length-entries value ks vs (omega (arith, e)))

-- one row, and those after it
pub length-front : (a : MatrixEntries) (ra : List ℕ) (k : ℕ) → k < length ra
    → length (rows_from a (drop k ra)) ≡ length (row_of (get_or ra k 0) a) + length (rows_from a (drop (k + 1) ra))
length-front a ra k h =
    ap length (rows_from-more a ra k h) ∙ length-append (with_row (get_or ra k 0) (row_of (get_or ra k 0) a)) (rows_from a (drop (k + 1) ra))
    ∙ ap (λ n. n + length (rows_from a (drop (k + 1) ra))) (length-map (row_of (get_or ra k 0) a) (λ e. ((get_or ra k 0, e.0), e.1)))

add_same : {m n o p : ℕ} → m ≡ n → o ≡ p → m + o ≡ n + p
add_same {m} {n} {o} {p} e h = ap (λ k. k + o) e ∙ ap (λ k. n + k) h

-- no rows are flat lists
pub flat_nothing : IsFlat [] [] []
flat_nothing = record {
  same = refl;
  some = λ h. absurd (omega (arith, h));
  first = refl;
  rise = λ i j l h. absurd (omega (arith, h));
  rows_rise = λ i j l h. absurd (omega (arith, h));
  inside = λ i l. absurd (omega (arith, l));
  fit = λ i l. absurd (omega (arith, l));
}

module _ {V : Type 0} (tv : V → Value) (g : ℕ → ℕ → Value → Option Value) (a : MatrixEntries) (ra : List ℕ) where
  -- what is written so far, and the rows from the k'th on
  pub record IsMaking (k : ℕ) (rows starts columns : List ℕ) (values : List V) : Type 0 where
    pub same : length values ≡ length columns
    pub flat : IsFlat rows starts columns
    pub below : (n m : ℕ) → n < length rows → k ≤ m → m < length ra → get_or rows n 0 < get_or ra m 0
    pub so_far : flat_entries tv rows starts columns values ++ all_made g (rows_from a (drop k ra)) ≡ all_made g a

  -- the columns js and the values ws come after those so far
  module _ (rise : (i j : ℕ) → i < j → j < length ra → get_or ra i 0 < get_or ra j 0)
      (k count r : ℕ) (rows starts rows2 starts2 columns columns2 js : List ℕ) (values values2 ws : List V)
      (before : IsMaking k rows starts columns values) (at : k < length ra) (is_r : r ≡ get_or ra k 0)
      (columns_are : columns2 ≡ columns ++ js) (values_are : values2 ≡ values ++ ws) (js_long : length js ≡ count) (ws_long : length ws ≡ count)
      (made : entries_of tv js ws ≡ each_made (g r) (row_of r a))
      (js_fit : (n : ℕ) → n < length js → get_or js n 0 < 4294967296)
      (rows_pushed : 0 < count → rows2 ≡ rows ++ r ∷ []) (starts_pushed : 0 < count → starts2 ≡ starts ++ length columns ∷ [])
      (rows_same : count ≡ 0 → rows2 ≡ rows) (starts_same : count ≡ 0 → starts2 ≡ starts) where
    abbrev out : MatrixEntries
    out = flat_entries tv rows starts columns values

    abbrev rest : MatrixEntries
    rest = rows_from a (drop (k + 1) ra)

    -- the rows so far come before this one
    below_this : (n : ℕ) → n < length rows → get_or rows n 0 < r
    below_this n l = let b = before.below n k l (omega arith) at in omega (arith, b, is_r)

    -- what becomes of the lists
    record IsPushed : Type 0 where
      pub is_flat : IsFlat rows2 starts2 columns2
      pub entries : flat_entries tv rows2 starts2 columns2 values2 ≡ out ++ with_row r (entries_of tv js ws)
      pub each : (n : ℕ) → n < length rows2 → ((n < length rows) × (get_or rows2 n 0 ≡ get_or rows n 0)) ⊎ (get_or rows2 n 0 ≡ r)

    pushed_none : count ≡ 0 → IsPushed
    pushed_none e =
        let no_js : js ≡ [] = none_of js (js_long ∙ e) in
        let no_ws : ws ≡ [] = none_of ws (ws_long ∙ e) in
        let columns_same : columns2 ≡ columns = columns_are ∙ ap (λ (s : List ℕ). columns ++ s) no_js ∙ append_nil columns in
        let values_same : values2 ≡ values = values_are ∙ ap (λ (s : List V). values ++ s) no_ws ∙ append_nil values in
        record {
          is_flat = subst (λ (s : List ℕ). IsFlat s starts2 columns2) (sym (rows_same e))
              (subst (λ (s : List ℕ). IsFlat rows s columns2) (sym (starts_same e)) (subst (IsFlat rows starts) (sym columns_same) before.flat));
          entries = ap (λ (s : List ℕ). flat_entries tv s starts2 columns2 values2) (rows_same e)
              ∙ ap (λ (s : List ℕ). flat_entries tv rows s columns2 values2) (starts_same e)
              ∙ ap (λ (s : List ℕ). flat_entries tv rows starts s values2) columns_same
              ∙ ap (flat_entries tv rows starts columns) values_same
              ∙ sym (append_nil out)
              ∙ ap (λ (m : VectorEntries). out ++ with_row r m) (sym (ap (λ (s : List ℕ). entries_of tv s ws) no_js));
          each = λ n l. inl (subst (λ (s : List ℕ). n < length s) (rows_same e) l, ap (λ (s : List ℕ). get_or s n 0) (rows_same e));
        }

    pushed_some : 0 < count → IsPushed
    pushed_some l =
        let starts_are : starts2 ≡ starts ++ length columns ∷ [] = starts_pushed l in
        record {
          is_flat = subst (λ (s : List ℕ). IsFlat s starts2 columns2) (sym (rows_pushed l))
              (subst (λ (s : List ℕ). IsFlat (rows ++ r ∷ []) s columns2) (sym starts_are)
              (subst (IsFlat (rows ++ r ∷ []) (starts ++ length columns ∷ [])) (sym columns_are)
              (flat-pushed_row tv rows starts columns values r js ws before.flat js_fit (omega (arith, l, js_long)) below_this)));
          entries = ap (λ (s : List ℕ). flat_entries tv s starts2 columns2 values2) (rows_pushed l)
              ∙ ap (λ (s : List ℕ). flat_entries tv (rows ++ r ∷ []) s columns2 values2) starts_are
              ∙ ap (λ (s : List ℕ). flat_entries tv (rows ++ r ∷ []) (starts ++ length columns ∷ []) s values2) columns_are
              ∙ ap (flat_entries tv (rows ++ r ∷ []) (starts ++ length columns ∷ []) (columns ++ js)) values_are
              ∙ entries-pushed_row tv rows starts columns values r js ws before.flat js_fit (sym before.same);
          each = λ n m.
              let long : length rows2 ≡ length rows + 1 = ap length (rows_pushed l) ∙ length_push rows r in
              elim (cases_eq n (length rows)) [
                | inl e ↦ inr (ap (λ (s : List ℕ). get_or s n 0) (rows_pushed l) ∙ ap (λ p. get_or (rows ++ r ∷ []) p 0) e ∙ get_or-append_seam rows r [] 0)
                | inr e ↦
                    let u : n < length rows = omega (arith, m, long, e) in
                    inl (u, ap (λ (s : List ℕ). get_or s n 0) (rows_pushed l) ∙ get_or_append_left rows (r ∷ []) 0 n u)
              ];
        }

    is_pushed : IsPushed
    is_pushed = elim (cases_eq count 0) [ inl e ↦ pushed_none e | inr n ↦ pushed_some (some count n) ]
      where
        some : (n : ℕ) → (n ≡ 0 → ⊥) → 0 < n
        some n h = omega (arith, h)

    -- what is made of the rows from the k'th on begins with what is made of that row
    front : all_made g (rows_from a (drop k ra)) ≡ with_row r (each_made (g r) (row_of r a)) ++ all_made g rest
    front =
        ap (all_made g) (rows_from-more a ra k at ∙ ap (λ n. with_row n (row_of n a) ++ rest) (sym is_r))
        ∙ each-append (λ (c : Cell) (v : Value). g c.0 c.1 v) (with_row r (row_of r a)) rest
        ∙ ap (λ (m : MatrixEntries). m ++ all_made g rest) (each-with_row (λ c v. g c.0 c.1 v) r (row_of r a))

    pub making_on : IsMaking (k + 1) rows2 starts2 columns2 values2
    making_on = record {
      same = ap length values_are ∙ length-append values ws ∙ add_same before.same (ws_long ∙ sym js_long) ∙ sym (ap length columns_are ∙ length-append columns js);
      flat = is_pushed.is_flat;
      below = λ n m l u v. elim (is_pushed.each n l) [
        | inl h ↦ let b = before.below n m h.0 (omega (arith, u)) v in let e = h.1 in omega (arith, b, e)
        | inr e ↦ let b = rise k m (omega (arith, u)) v in omega (arith, b, e, is_r)
      ];
      so_far = ap (λ (m : MatrixEntries). m ++ all_made g rest) (is_pushed.entries ∙ ap (λ (m : VectorEntries). out ++ with_row r m) made)
          ∙ append_assoc out (with_row r (each_made (g r) (row_of r a))) (all_made g rest)
          ∙ ap (λ (m : MatrixEntries). out ++ m) (sym front)
          ∙ before.so_far;
    }

  -- before the first turn nothing is written
  pub making_begins : (rows starts columns : List ℕ) (values : List V) → rows_from a ra ≡ a → rows ≡ [] → starts ≡ [] → columns ≡ [] → values ≡ []
      → IsMaking 0 rows starts columns values
  making_begins rows starts columns values whole no_rows no_starts no_columns no_values =
      let is_rows : length rows ≡ 0 = ap length no_rows in
      record {
        same = ap length no_values ∙ sym (ap length no_columns);
        flat = subst (λ (s : List ℕ). IsFlat s starts columns) (sym no_rows) (subst (λ (s : List ℕ). IsFlat [] s columns) (sym no_starts) (subst (IsFlat [] []) (sym no_columns) flat_nothing));
        below = λ n m l u v. absurd (omega (arith, l, is_rows));
        so_far = ap (λ (m : MatrixEntries). m ++ all_made g (rows_from a ra))
            (ap (λ (s : List ℕ). flat_entries tv s starts columns values) no_rows ∙ ap (λ (s : List ℕ). flat_entries tv [] s columns values) no_starts ∙ ap (λ (s : List ℕ). flat_entries tv [] [] s values) no_columns)
            ∙ ap (all_made g) whole;
      }

  -- after the last turn all is written
  pub making_ends : (k : ℕ) (rows starts columns : List ℕ) (values : List V) → IsMaking k rows starts columns values → length ra ≤ k
      → flat_entries tv rows starts columns values ≡ all_made g a
  making_ends k rows starts columns values held past =
      let written = flat_entries tv rows starts columns values in
      sym (append_nil written)
      ∙ ap (λ (m : MatrixEntries). written ++ m) (sym (ap (λ (s : List ℕ). all_made g (rows_from a s)) (drop_all k ra past)))
      ∙ held.so_far
