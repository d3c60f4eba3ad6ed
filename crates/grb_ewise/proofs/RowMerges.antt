-- One turn of the loop over the rows of two matrices.
use Rattle.std.proofs.Common.{◌≡◌, ℕ, ◌+◌, ◌<◌, ◌≤◌, Bool, true, false, List, [], ◌∷◌, ◌++◌, length, get_or, take, drop, refl, sym, ap, subst, ◌∙◌, arith, append_assoc, inl, inr}
use Rattle.std.specs.Prelude.{Option, None, ◌⊎◌, IsTrue}
use Rattle.std.specs.FinMap.{is_sorted}
use Rattle.grb_core.proofs.Maps.{cell_cmp_total, cell_cmp-IsAntisymmetric}
use Rattle.grb_core.proofs.Written.{is_sorted-pointwise}
use Rattle.grb_ewise.proofs.RowEntries.{passes}
use Rattle.std.specs.Ordering.{nat_cmp}
use Rattle.std.proofs.lemmas.Bool.{cases_eq, cases_lt}
use Rattle.std.proofs.lemmas.List.{length_push, length-append, length-drop, length-take-le, drop_all, drop-take, get_or-drop, get_or-take, get_or_append_left, take-append-drop, take-append-le, take-take, take_all}
use Rattle.std.proofs.Math.Seq.{get_or-append_seam}
use Rattle.grb_core.specs.declared.value.Value.{Value}
use Rattle.grb_core.specs.Entries.{VectorEntries, MatrixEntries, cell_cmp}
use Rattle.grb_core.specs.Results.{row_of}
use Rattle.grb_core.specs.Written.{pointwise}
use Rattle.grb_kernels.specs.Typed.{entries_of}
use Rattle.grb_kernels.proofs.Lists.{append_nil}
use Rattle.grb_lists.specs.Cells.{IsFlat}
use Rattle.grb_ewise.specs.Rows.{flat_entries}
use Rattle.grb_ewise.proofs.MatrixRows.{with_row, rows_from, rows_from-more, below-rows_from, pointwise-with_row}
use Rattle.grb_ewise.proofs.PushedRows.{entries-pushed_row, flat-pushed_row}

abbrev pub Rises : List ℕ → Type 0
Rises rs = (i j : ℕ) → i < j → j < length rs → get_or rs i 0 < get_or rs j 0

-- one matrix's part in a turn at row r: its row there, which may be empty, is x, and its cursor goes from i to next
pub record IsTurn (m : MatrixEntries) (rs : List ℕ) (i next r : ℕ) (x : VectorEntries) : Type 0 where
  pub front : rows_from m (drop i rs) ≡ with_row r x ++ rows_from m (drop next rs)
  pub later : (n : ℕ) → next ≤ n → n < length rs → r < get_or rs n 0
  pub on : i ≤ next
  pub inside : next ≤ length rs

module _ (m : MatrixEntries) (rs : List ℕ) (rise : Rises rs) (i next r : ℕ) (x : VectorEntries) where
  turn_here : i < length rs → r ≡ get_or rs i 0 → x ≡ row_of (get_or rs i 0) m → next ≡ i + 1 → IsTurn m rs i next r x
  turn_here l is row e = record {
    front = rows_from-more m rs i l
        ∙ ap (λ (y : VectorEntries). with_row (get_or rs i 0) y ++ rows_from m (drop (i + 1) rs)) (sym row)
        ∙ ap (λ k. with_row k x ++ rows_from m (drop (i + 1) rs)) (sym is)
        ∙ ap (λ k. with_row r x ++ rows_from m (drop k rs)) (sym e);
    later = λ n u v. let up = rise i n (omega (arith, u, e)) v in omega (arith, up, is);
    on = omega (arith, e);
    inside = omega (arith, e, l);
  }

  turn_elsewhere : i ≤ length rs → (i < length rs → r < get_or rs i 0) → x ≡ [] → next ≡ i → IsTurn m rs i next r x
  turn_elsewhere l below row e = record {
    front = ap (λ k. rows_from m (drop k rs)) (sym e) ∙ ap (λ (y : VectorEntries). with_row r y ++ rows_from m (drop next rs)) (sym row);
    later = λ n u v. elim (cases_eq i n) [
      | inl t ↦ let b = below (omega (arith, t, v)) in subst (λ k. r < get_or rs k 0) t b
      | inr t ↦ let up = rise i n (omega (arith, u, e, t)) v in let b = below (omega (arith, t, u, e, v)) in omega (arith, up, b)
    ];
    on = omega (arith, e);
    inside = omega (arith, e, l);
  }

  -- by what the code knows: p is the number of the row at the cursor, and q that of the other matrix
  pub turn : (here : Bool) (p q : ℕ) → i ≤ length rs → (here ≡ true → i < length rs) → (i < length rs → p ≡ get_or rs i 0)
      → (here ≡ true → p ≤ q) → (here ≡ false → q < p) → (p ≤ q → r ≡ p) → (q ≤ p → r ≡ q)
      → (here ≡ true → x ≡ row_of (get_or rs i 0) m) → (here ≡ true → next ≡ i + 1) → (here ≡ false → x ≡ []) → (here ≡ false → next ≡ i) → IsTurn m rs i next r x
  turn true p q l at number upto above left right row on none stays = turn_here (at refl) (left (upto refl) ∙ number (at refl)) (row refl) (on refl)
  turn false p q l at number upto above left right row on none stays =
      let h = above refl in
      let is = right (omega (arith, h)) in
      turn_elsewhere l (λ k. let n = number k in omega (arith, h, is, n)) (none refl) (stays refl)

-- where the number of the row at a cursor is not above the other, there is a row
pub stands : (here : Bool) (i j p q n o : ℕ) → i + j < n + o → j ≤ o → (n ≤ i → p ≡ 4294967296) → (j < o → q < 4294967296) → (here ≡ true → p ≤ q) → here ≡ true → i < n
stands here i j p q n o l u past fits upto t =
    elim (cases_lt i n) [
      | inl h ↦ h
      | inr h ↦ let a = past h in let b = upto t in
          elim (cases_lt j o) [
            | inl k ↦ let c = fits k in absurd (omega (arith, a, b, c))
            | inr k ↦ past_both i j n o l h k
          ]
    ]
  where
    past_both : (i j n o : ℕ) → i + j < n + o → n ≤ i → o ≤ j → i < n
    past_both i j n o l h k = omega (arith, l, h, k)

-- the two cursors of a turn: at least one of them is at the row whose turn it is
module _ (ra rb : List ℕ) (i j p q r : ℕ) (here there : Bool) (going : i + j < length ra + length rb) (left : i ≤ length ra) (right : j ≤ length rb)
    (number_a : i < length ra → p ≡ get_or ra i 0) (fits_a : i < length ra → p < 4294967296) (past_a : length ra ≤ i → p ≡ 4294967296)
    (number_b : j < length rb → q ≡ get_or rb j 0) (fits_b : j < length rb → q < 4294967296) (past_b : length rb ≤ j → q ≡ 4294967296)
    (upto_a : here ≡ true → p ≤ q) (above_a : here ≡ false → q < p) (upto_b : there ≡ true → q ≤ p) (above_b : there ≡ false → p < q) where
  pub at_a : here ≡ true → i < length ra
  at_a t = stands here i j p q (length ra) (length rb) going right past_a fits_b upto_a t

  pub at_b : there ≡ true → j < length rb
  at_b t = stands there j i q p (length rb) (length ra) (omega (arith, going)) left past_b fits_a upto_b t

  pub at_one : (p ≤ q → r ≡ p) → (q ≤ p → r ≡ q) → ((i < length ra) × (r ≡ get_or ra i 0)) ⊎ ((j < length rb) × (r ≡ get_or rb j 0))
  at_one is_left is_right = elim here as (λ b. here ≡ b → ((i < length ra) × (r ≡ get_or ra i 0)) ⊎ ((j < length rb) × (r ≡ get_or rb j 0))) [
    | true ↦ λ t. inl (at_a t, is_left (upto_a t) ∙ number_a (at_a t))
    | false ↦ λ t. let h = above_a t in
        elim there as (λ b. there ≡ b → ((i < length ra) × (r ≡ get_or ra i 0)) ⊎ ((j < length rb) × (r ≡ get_or rb j 0))) [
          | true ↦ λ u. inr (at_b u, is_right (upto_b u) ∙ number_b (at_b u))
          | false ↦ λ u. let k = above_b u in absurd (omega (arith, h, k))
        ] refl
  ] refl

-- at least one cursor goes on
pub one_goes_on : (here there : Bool) (i j i2 j2 p q : ℕ) → (here ≡ false → q < p) → (there ≡ false → p < q) → (here ≡ true → i2 ≡ i + 1) → (here ≡ false → i2 ≡ i) → (there ≡ true → j2 ≡ j + 1) → (there ≡ false → j2 ≡ j)
    → i + j + 1 ≤ i2 + j2
one_goes_on true true i j i2 j2 p q h k on stays on' stays' = omega (arith, on refl, on' refl)
one_goes_on true false i j i2 j2 p q h k on stays on' stays' = omega (arith, on refl, stays' refl)
one_goes_on false true i j i2 j2 p q h k on stays on' stays' = omega (arith, stays refl, on' refl)
one_goes_on false false i j i2 j2 p q h k on stays on' stays' = absurd (omega (arith, h refl, k refl))

module _ {V : Type 0} (tv : V → Value) (f : Option Value → Option Value → Option Value) (none : f None None ≡ None) (a b : MatrixEntries) (ra rb : List ℕ) (total : MatrixEntries) where
  -- what is written so far, and the rows from both cursors on
  pub record IsFilling (i j : ℕ) (rows starts columns : List ℕ) (values : List V) : Type 0 where
    pub left : i ≤ length ra
    pub right : j ≤ length rb
    pub same : length values ≡ length columns
    pub flat : IsFlat rows starts columns
    pub below_a : (n m : ℕ) → n < length rows → i ≤ m → m < length ra → get_or rows n 0 < get_or ra m 0
    pub below_b : (n m : ℕ) → n < length rows → j ≤ m → m < length rb → get_or rows n 0 < get_or rb m 0
    pub so_far : flat_entries tv rows starts columns values ++ pointwise cell_cmp f (rows_from a (drop i ra)) (rows_from b (drop j rb)) ≡ total

  -- the columns js and the values ws come after those so far
  module _ (i j i2 j2 count r : ℕ) (rows starts rows2 starts2 columns columns2 js : List ℕ) (values values2 ws : List V) (x y : VectorEntries)
      (before : IsFilling i j rows starts columns values) (turn_a : IsTurn a ra i i2 r x) (turn_b : IsTurn b rb j j2 r y)
      (columns_are : columns2 ≡ columns ++ js) (values_are : values2 ≡ values ++ ws) (js_long : length js ≡ count) (ws_long : length ws ≡ count)
      (made : entries_of tv js ws ≡ pointwise nat_cmp f x y)
      (js_fit : (n : ℕ) → n < length js → get_or js n 0 < 4294967296)
      (stands_at : ((i < length ra) × (r ≡ get_or ra i 0)) ⊎ ((j < length rb) × (r ≡ get_or rb j 0)))
      (rows_pushed : 0 < count → rows2 ≡ rows ++ r ∷ []) (starts_pushed : 0 < count → starts2 ≡ starts ++ length columns ∷ [])
      (rows_same : count ≡ 0 → rows2 ≡ rows) (starts_same : count ≡ 0 → starts2 ≡ starts) where
    abbrev rest_a : MatrixEntries
    rest_a = rows_from a (drop i2 ra)

    abbrev rest_b : MatrixEntries
    rest_b = rows_from b (drop j2 rb)

    abbrev out : MatrixEntries
    out = flat_entries tv rows starts columns values

    -- the rows so far come before this one
    below_this : (n : ℕ) → n < length rows → get_or rows n 0 < r
    below_this n l = elim stands_at [
      | inl h ↦ let b = before.below_a n i l (omega arith) h.0 in let e = h.1 in omega (arith, b, e)
      | inr h ↦ let b = before.below_b n j l (omega arith) h.0 in let e = h.1 in omega (arith, b, e)
    ]

    none_of : {A : Type 0} (xs : List A) → length xs ≡ 0 → xs ≡ []
    none_of [] e = refl
    none_of (x ∷ xs) e = absurd (omega (arith, e))

    add_same : {m n o p : ℕ} → m ≡ n → o ≡ p → m + o ≡ n + p
    add_same {m} {n} {o} {p} e h = ap (λ k. k + o) e ∙ ap (λ k. n + k) h

    -- what becomes of the lists
    record IsPushed : Type 0 where
      pub is_flat : IsFlat rows2 starts2 columns2
      pub entries : flat_entries tv rows2 starts2 columns2 values2 ≡ out ++ with_row r (entries_of tv js ws)
      pub each : (n : ℕ) → n < length rows2 → ((n < length rows) × (get_or rows2 n 0 ≡ get_or rows n 0)) ⊎ (get_or rows2 n 0 ≡ r)

    pushed_none : count ≡ 0 → IsPushed
    pushed_none e =
        let no_js : js ≡ [] = none_of js (js_long ∙ e) in
        let no_ws : ws ≡ [] = none_of ws (ws_long ∙ e) in
        let columns_same : columns2 ≡ columns = columns_are ∙ ap (λ (s : List ℕ). columns ++ s) no_js ∙ append_nil columns in
        let values_same : values2 ≡ values = values_are ∙ ap (λ (s : List V). values ++ s) no_ws ∙ append_nil values in
        record {
          is_flat = subst (λ (s : List ℕ). IsFlat s starts2 columns2) (sym (rows_same e))
              (subst (λ (s : List ℕ). IsFlat rows s columns2) (sym (starts_same e)) (subst (IsFlat rows starts) (sym columns_same) before.flat));
          entries = ap (λ (s : List ℕ). flat_entries tv s starts2 columns2 values2) (rows_same e)
              ∙ ap (λ (s : List ℕ). flat_entries tv rows s columns2 values2) (starts_same e)
              ∙ ap (λ (s : List ℕ). flat_entries tv rows starts s values2) columns_same
              ∙ ap (flat_entries tv rows starts columns) values_same
              ∙ sym (append_nil out)
              ∙ ap (λ (m : VectorEntries). out ++ with_row r m) (sym (ap (λ (s : List ℕ). entries_of tv s ws) no_js));
          each = λ n l. inl (subst (λ (s : List ℕ). n < length s) (rows_same e) l, ap (λ (s : List ℕ). get_or s n 0) (rows_same e));
        }

    pushed_some : 0 < count → IsPushed
    pushed_some l =
        let starts_are : starts2 ≡ starts ++ length columns ∷ [] = starts_pushed l in
        record {
          is_flat = subst (λ (s : List ℕ). IsFlat s starts2 columns2) (sym (rows_pushed l))
              (subst (λ (s : List ℕ). IsFlat (rows ++ r ∷ []) s columns2) (sym starts_are)
              (subst (IsFlat (rows ++ r ∷ []) (starts ++ length columns ∷ [])) (sym columns_are)
              (flat-pushed_row tv rows starts columns values r js ws before.flat js_fit (omega (arith, l, js_long)) below_this)));
          entries = ap (λ (s : List ℕ). flat_entries tv s starts2 columns2 values2) (rows_pushed l)
              ∙ ap (λ (s : List ℕ). flat_entries tv (rows ++ r ∷ []) s columns2 values2) starts_are
              ∙ ap (λ (s : List ℕ). flat_entries tv (rows ++ r ∷ []) (starts ++ length columns ∷ []) s values2) columns_are
              ∙ ap (flat_entries tv (rows ++ r ∷ []) (starts ++ length columns ∷ []) (columns ++ js)) values_are
              ∙ entries-pushed_row tv rows starts columns values r js ws before.flat js_fit (sym before.same);
          each = λ n m.
              let long : length rows2 ≡ length rows + 1 = ap length (rows_pushed l) ∙ length_push rows r in
              elim (cases_eq n (length rows)) [
                | inl e ↦ inr (ap (λ (s : List ℕ). get_or s n 0) (rows_pushed l) ∙ ap (λ p. get_or (rows ++ r ∷ []) p 0) e ∙ get_or-append_seam rows r [] 0)
                | inr e ↦
                    let u : n < length rows = omega (arith, m, long, e) in
                    inl (u, ap (λ (s : List ℕ). get_or s n 0) (rows_pushed l) ∙ get_or_append_left rows (r ∷ []) 0 n u)
              ];
        }

    is_pushed : IsPushed
    is_pushed = elim (cases_eq count 0) [ inl e ↦ pushed_none e | inr n ↦ pushed_some (some count n) ]
      where
        some : (n : ℕ) → (n ≡ 0 → ⊥) → 0 < n
        some n h = omega (arith, h)

    pub filled : IsFilling i2 j2 rows2 starts2 columns2 values2
    filled = record {
      left = turn_a.inside;
      right = turn_b.inside;
      same = ap length values_are ∙ length-append values ws ∙ add_same before.same (ws_long ∙ sym js_long) ∙ sym (ap length columns_are ∙ length-append columns js);
      flat = is_pushed.is_flat;
      below_a = λ n m l u v. elim (is_pushed.each n l) [
        | inl h ↦ let on = turn_a.on in let b = before.below_a n m h.0 (omega (arith, on, u)) v in let e = h.1 in omega (arith, b, e)
        | inr e ↦ let b = turn_a.later m u v in omega (arith, b, e)
      ];
      below_b = λ n m l u v. elim (is_pushed.each n l) [
        | inl h ↦ let on = turn_b.on in let b = before.below_b n m h.0 (omega (arith, on, u)) v in let e = h.1 in omega (arith, b, e)
        | inr e ↦ let b = turn_b.later m u v in omega (arith, b, e)
      ];
      so_far = ap (λ (m : MatrixEntries). m ++ pointwise cell_cmp f rest_a rest_b) (is_pushed.entries ∙ ap (λ (m : VectorEntries). out ++ with_row r m) made)
          ∙ append_assoc out (with_row r (pointwise nat_cmp f x y)) (pointwise cell_cmp f rest_a rest_b)
          ∙ ap (λ (m : MatrixEntries). out ++ m) (sym (ap (λ (m : MatrixEntries). pointwise cell_cmp f m (rows_from b (drop j rb))) turn_a.front
          ∙ ap (pointwise cell_cmp f (with_row r x ++ rest_a)) turn_b.front
          ∙ pointwise-with_row f none r x y rest_a rest_b (below-rows_from r a ra i2 turn_a.later) (below-rows_from r b rb j2 turn_b.later)))
          ∙ before.so_far;
    }

-- before the first turn nothing is written
pub filling_begins : {V : Type 0} (tv : V → Value) (f : Option Value → Option Value → Option Value) (none : f None None ≡ None) (a b : MatrixEntries) (ra rb rows starts columns : List ℕ) (values : List V)
    → rows_from a ra ≡ a → rows_from b rb ≡ b → rows ≡ [] → starts ≡ [] → columns ≡ [] → values ≡ []
    → IsFilling tv f none a b ra rb (pointwise cell_cmp f a b) 0 0 rows starts columns values
filling_begins tv f none a b ra rb rows starts columns values whole_a whole_b no_rows no_starts no_columns no_values =
    let is_rows : length rows ≡ 0 = ap length no_rows in
    record {
      left = omega arith;
      right = omega arith;
      same = ap length no_values ∙ sym (ap length no_columns);
      flat = subst (λ (s : List ℕ). IsFlat s starts columns) (sym no_rows) (subst (λ (s : List ℕ). IsFlat [] s columns) (sym no_starts) (subst (IsFlat [] []) (sym no_columns) flat_nothing));
      below_a = λ n m l u v. absurd (omega (arith, l, is_rows));
      below_b = λ n m l u v. absurd (omega (arith, l, is_rows));
      so_far = ap (λ (m : MatrixEntries). m ++ pointwise cell_cmp f (rows_from a ra) (rows_from b rb))
          (ap (λ (s : List ℕ). flat_entries tv s starts columns values) no_rows ∙ ap (λ (s : List ℕ). flat_entries tv [] s columns values) no_starts ∙ ap (λ (s : List ℕ). flat_entries tv [] [] s values) no_columns)
          ∙ ap (λ (m : MatrixEntries). pointwise cell_cmp f m (rows_from b rb)) whole_a ∙ ap (pointwise cell_cmp f a) whole_b;
    }
  where
    flat_nothing : IsFlat [] [] []
    flat_nothing = record {
      same = refl;
      some = λ h. absurd (omega (arith, h));
      first = refl;
      rise = λ i j l h. absurd (omega (arith, h));
      rows_rise = λ i j l h. absurd (omega (arith, h));
      inside = λ i l. absurd (omega (arith, l));
      fit = λ i l. absurd (omega (arith, l));
    }

-- what is made of two matrices is in order
pub merged_in_order : (f : Option Value → Option Value → Option Value) (a b made : MatrixEntries) → made ≡ pointwise cell_cmp f a b → IsTrue (is_sorted cell_cmp made)
merged_in_order f a b made e = subst (λ (m : MatrixEntries). IsTrue (is_sorted cell_cmp m)) (sym e) (passes _ (is_sorted-pointwise cell_cmp_total cell_cmp-IsAntisymmetric f a b))

-- after the last turn all is written
pub filling_ends : {V : Type 0} (tv : V → Value) (f : Option Value → Option Value → Option Value) (none : f None None ≡ None) (a b : MatrixEntries) (ra rb rows starts columns : List ℕ) (values : List V) (total : MatrixEntries) (i j : ℕ)
    → IsFilling tv f none a b ra rb total i j rows starts columns values → length ra + length rb ≤ i + j → flat_entries tv rows starts columns values ≡ total
filling_ends tv f none a b ra rb rows starts columns values total i j held past =
    let left = held.left in
    let right = held.right in
    let no_a : rows_from a (drop i ra) ≡ [] = ap (rows_from a) (drop_all i ra (omega (arith, past, left, right))) in
    let no_b : rows_from b (drop j rb) ≡ [] = ap (rows_from b) (drop_all j rb (omega (arith, past, left, right))) in
    let written = flat_entries tv rows starts columns values in
    sym (append_nil written)
    ∙ ap (λ (m : MatrixEntries). written ++ m) (sym (ap (λ (m : MatrixEntries). pointwise cell_cmp f m (rows_from b (drop j rb))) no_a ∙ ap (pointwise cell_cmp f []) no_b))
    ∙ held.so_far

-- of a list that begins as another one, the first k and n more
pub written_at : {A : Type 0} (k n : ℕ) (xs ys : List A) → take k ys ≡ take k xs → take (k + n) ys ≡ take k xs ++ take n (drop k ys)
written_at {A} k n xs ys e =
    sym (take-append-drop k (take (k + n) ys))
    ∙ ap (λ (s : List A). s ++ drop k (take (k + n) ys)) (take-take k (k + n) ys (omega arith) ∙ e)
    ∙ ap (λ (s : List A). take k xs ++ s) (drop-take k n ys)

pub length-written : {A : Type 0} (k n : ℕ) (ys : List A) → k + n ≤ length ys → length (take n (drop k ys)) ≡ n
length-written k n ys h = let rest = length-drop k ys in length-take-le n (drop k ys) (omega (arith, h, rest))

pub fit-written : (k n : ℕ) (ys : List ℕ) → k + n ≤ length ys → ((m : ℕ) → m < length ys → get_or ys m 0 < 4294967296) → (m : ℕ) → m < length (take n (drop k ys)) → get_or (take n (drop k ys)) m 0 < 4294967296
fit-written k n ys h fit m l =
    let long = length-written k n ys h in
    subst (λ v. v < 4294967296) (sym (get_or-take n (drop k ys) m 0 (omega (arith, l, long)) ∙ get_or-drop k ys m 0)) (fit (k + m) (omega (arith, h, l, long)))

-- a list that was lent whole as a slice is that slice
pub lent_whole : {A : Type 0} (l : ℕ) (xs ys : List A) → length xs ≡ l → take l (xs ++ ys) ≡ xs
lent_whole l xs ys e = take-append-le l xs ys (omega (arith, e)) ∙ take_all l xs (omega (arith, e))
