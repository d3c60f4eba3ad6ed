-- A vector on a diagonal: one more entry, and what all of them are.
use Rattle.std.proofs.Common.{◌≡◌, ℕ, ◌+◌, ◌<◌, ◌≤◌, true, cond, List, [], ◌∷◌, ◌++◌, length, get_or, take, refl, sym, ap, subst, ◌∙◌, arith, inl, inr}
use Rattle.std.specs.Prelude.{⊤, All, IsTrue, map, Option, Some, None, option_and_then}
use Rattle.std.specs.List.{AllByRecursion}
use Rattle.std.specs.declared.cmp.Ordering.TheVariants.{Less}
use Rattle.std.specs.Ordering.{nat_cmp, is_lt, eq_by_cmp, ordering_then}
use Rattle.std.specs.Cmp.{nat_cmp_is, nat_cmp_total}
use Rattle.std.specs.FinMap.{find, is_sorted, nat_cmp-IsAntisymmetric}
use Rattle.std.specs.FinMap.Entries.{below_all}
use Rattle.std.proofs.lemmas.Bool.{cases_eq, cases_lt}
use Rattle.std.proofs.lemmas.Bool.Decides.{nat_tests}
use Rattle.std.proofs.lemmas.List.Elements.{All-from_recursion, recursion_from_All}
use Rattle.std.proofs.lemmas.List.{get_or-map, get_or-take, length-map, length_push, length-take-le, map-append, take_more}
use lib.Dec.{T}
use Rattle.grb_core.specs.declared.domain.Domain.{Domain}
use Rattle.grb_core.specs.declared.value.Value.{Value}
use Rattle.grb_core.specs.Value.{IsValueOf}
use Rattle.grb_core.specs.Contents.{Vector, IsDimension, IsMatrix, IsVector}
use Rattle.grb_core.specs.Entries.{Cell, VectorEntries, MatrixEntries, cell_cmp}
use Rattle.grb_core.proofs.Maps.{both, first as fst, second as snd, cell_cmp_total, cell_cmp-IsAntisymmetric, same_entries_at}
use Rattle.grb_core.proofs.Edits.{ties_with_itself, ties_with_no_other}
use Rattle.grb_kernels.specs.Typed.{entries_of, first_entries}
use Rattle.grb_kernels.proofs.Lists.{first-read}
use Rattle.grb_lists.specs.Cells.{IsFlat}
use Rattle.grb_lists.proofs.FlatLists.{keys_strict}
use Rattle.grb_ewise.specs.Rows.{flat_entries}
use Rattle.grb_ewise.proofs.Lent.{entries-paired}
use Rattle.grb_ewise.proofs.WholeMatrix.{matrix_of}
use Rattle.grb_ewise.proofs.PushedRows.{entries-pushed_row, flat-pushed_row}
use Rattle.grb_core.specs.declared.tests.Diagonal.{Diagonal}
use Rattle.grb_core.specs.declared.tests.Diagonal.TheVariants as diagonal
use Rattle.grb_core.specs.Tests.{up, down}
use Rattle.grb_core.specs.Maps.{diagonal_of, diagonal_size, on_diagonal}
use Rattle.grb_core.proofs.Each.{holds, made_true}
use Rattle.grb_core.proofs.Pulls.{IsAmong, among_or_not, find-cells, find-no_cell, sorted_cells_made}
use Rattle.grb_maps.specs.Placed.{placed}
use Rattle.grb_maps.proofs.Pushing.{flat_nothing}

below_is : (x y : ℕ) → T (is_lt (nat_cmp x y)) → x < y
below_is x y h = grind (arith, nat_tests, h)

-- a cell that the place on the diagonal gives
where_read : (d : Diagonal) (i j k : ℕ) → on_diagonal d (i, j) ≡ Some k → (i ≡ k + down d) × (j ≡ k + up d)
where_read d i j k h = grind (arith, nat_tests, h)

module _ (d : Diagonal) where
  -- the entry at a cell of the diagonal
  find-there : (k : ℕ) (u : VectorEntries) → find cell_cmp (k + down d, k + up d) (placed (down d) (up d) u) ≡ find nat_cmp k u
  find-there k [] = refl
  find-there k (e ∷ u) =
      let rest = find-there k u in
      elim (cases_eq k e.0) [
        | inl s ↦
            ap (λ b. cond b (Some e.1) (find cell_cmp (k + down d, k + up d) (placed (down d) (up d) u))) (cells_tie s)
            ∙ sym (ap (λ b. cond b (Some e.1) (find nat_cmp k u)) (ap (eq_by_cmp nat_cmp k) (sym s) ∙ ties_with_itself nat_cmp nat_cmp_total nat_cmp-IsAntisymmetric k))
        | inr n ↦
            ap (λ b. cond b (Some e.1) (find cell_cmp (k + down d, k + up d) (placed (down d) (up d) u)))
            (ties_with_no_other cell_cmp cell_cmp_total cell_cmp-IsAntisymmetric (k + down d, k + up d) (e.0 + down d, e.0 + up d) (λ s. n (apart k e.0 (ap (λ (c : Cell). c.0) s))))
            ∙ rest
            ∙ sym (ap (λ b. cond b (Some e.1) (find nat_cmp k u)) (ties_with_no_other nat_cmp nat_cmp_total nat_cmp-IsAntisymmetric k e.0 n))
      ]
    where
      apart : (p q : ℕ) → p + down d ≡ q + down d → p ≡ q
      apart p q s = omega (arith, s)

      cells_tie : {p q : ℕ} → p ≡ q → eq_by_cmp cell_cmp (p + down d, p + up d) (q + down d, q + up d) ≡ true
      cells_tie {p} s = ap (λ (n : ℕ). eq_by_cmp cell_cmp (p + down d, p + up d) (n + down d, n + up d)) (sym s) ∙ ties_with_itself cell_cmp cell_cmp_total cell_cmp-IsAntisymmetric (p + down d, p + up d)

  -- and at no other one
  find-elsewhere : (c : Cell) (u : VectorEntries) → on_diagonal d c ≡ None → find cell_cmp c (placed (down d) (up d) u) ≡ None
  find-elsewhere c [] h = refl
  find-elsewhere c (e ∷ u) h =
      ap (λ b. cond b (Some e.1) (find cell_cmp c (placed (down d) (up d) u)))
      (ties_with_no_other cell_cmp cell_cmp_total cell_cmp-IsAntisymmetric c (e.0 + down d, e.0 + up d) (λ s. some_is_not_none e.0 (sym (read d e.0) ∙ ap (on_diagonal d) (sym s) ∙ h)))
      ∙ find-elsewhere c u h
    where
      is_some_of : Option ℕ → Type 0
      is_some_of (Some k) = ⊤
      is_some_of None = ⊥

      some_is_not_none : (k : ℕ) → Some k ≡ None → ⊥
      some_is_not_none k e = subst is_some_of e tt

      read : (d : Diagonal) (k : ℕ) → on_diagonal d (k + down d, k + up d) ≡ Some k
      read (diagonal.Above n) k = grind (arith, nat_tests)
      read (diagonal.Below n) k = grind (arith, nat_tests)

  find-placed : (c : Cell) (u : VectorEntries) → find cell_cmp c (placed (down d) (up d) u) ≡ option_and_then (λ k. find nat_cmp k u) (on_diagonal d c)
  find-placed c u =
      elim (on_diagonal d c) as (λ w. on_diagonal d c ≡ w → find cell_cmp c (placed (down d) (up d) u) ≡ option_and_then (λ k. find nat_cmp k u) w) [
        | None ↦ λ e. find-elsewhere c u e
        | Some k ↦ λ e.
            let at = where_read d c.0 c.1 k e in
            ap (λ (n : ℕ). find cell_cmp (n, c.1) (placed (down d) (up d) u)) at.0 ∙ ap (λ (n : ℕ). find cell_cmp (k + down d, n) (placed (down d) (up d) u)) at.1 ∙ find-there k u
      ] refl

less_then : (x y a b : ℕ) → x < y → T (is_lt (cell_cmp (x, a) (y, b)))
less_then x y a b h = subst (λ o. T (is_lt (ordering_then o (nat_cmp a b)))) (nat_cmp_is x y Less h) tt

below-placed : (down up x : ℕ) (u : VectorEntries) → T (below_all nat_cmp x u) → T (below_all cell_cmp (x + down, x + up) (placed down up u))
below-placed down up x [] h = tt
below-placed down up x (e ∷ u) h =
    let l = below_is x e.0 (fst _ _ h) in
    both _ _ (less_then (x + down) (e.0 + down) (x + up) (e.0 + up) (omega (arith, l))) (below-placed down up x u (snd _ _ h))

pub sorted-placed : (down up : ℕ) (u : VectorEntries) → T (is_sorted nat_cmp u) → T (is_sorted cell_cmp (placed down up u))
sorted-placed down up [] h = tt
sorted-placed down up (e ∷ u) h = both _ _ (below-placed down up e.0 u (fst _ _ h)) (sorted-placed down up u (snd _ _ h))

find-no_index : (size k : ℕ) (u : VectorEntries) → AllByRecursion (λ e. e.0 < size) u → size ≤ k → find nat_cmp k u ≡ None
find-no_index size k [] w h = refl
find-no_index size k (e ∷ u) w h =
    ap (λ b. cond b (Some e.1) (find nat_cmp k u)) (ties_with_no_other nat_cmp nat_cmp_total nat_cmp-IsAntisymmetric k e.0 (λ s. let l = w.0 in absurd (omega (arith, l, h, s))))
    ∙ find-no_index size k u w.1 h

-- the diagonal is each entry further down and further to the right
pub diagonal_is : (d : Diagonal) (size : ℕ) (u : VectorEntries) → T (is_sorted nat_cmp u) → AllByRecursion (λ e. e.0 < size) u
    → diagonal_of (diagonal_size d size) d u ≡ placed (down d) (up d) u
diagonal_is d size u sorted within =
    let n = diagonal_size d size in
    same_entries_at cell_cmp cell_cmp_total cell_cmp-IsAntisymmetric (diagonal_of n d u) (placed (down d) (up d) u) (sorted_cells_made at_cell n n) (sorted-placed (down d) (up d) u sorted)
    (λ c. elim (among_or_not n n c) [
      | inl l ↦ find-cells at_cell n n c.0 c.1 l.0 l.1 ∙ sym (find-placed d c u)
      | inr never ↦ find-no_cell at_cell n n c never ∙ sym (find-placed d c u ∙ outside c never)
    ])
  where
    at_cell : Cell → Option Value
    at_cell c = option_and_then (λ k. find nat_cmp k u) (on_diagonal d c)

    past : (c : Cell) (k : ℕ) → (c.0 ≡ k + down d) × (c.1 ≡ k + up d) → (IsAmong (diagonal_size d size) (diagonal_size d size) c → ⊥) → size ≤ k
    past c k at never = elim (cases_lt k size) [
      | inl l ↦ let row = at.0 in let column = at.1 in absurd (never (omega (arith, l, row), omega (arith, l, column)))
      | inr h ↦ h
    ]

    outside : (c : Cell) → (IsAmong (diagonal_size d size) (diagonal_size d size) c → ⊥) → option_and_then (λ k. find nat_cmp k u) (on_diagonal d c) ≡ None
    outside c never =
        elim (on_diagonal d c) as (λ w. on_diagonal d c ≡ w → option_and_then (λ k. find nat_cmp k u) w ≡ None) [
          | None ↦ λ e. refl
          | Some k ↦ λ e. find-no_index size k u within (past c k (where_read d c.0 c.1 k e) never)
        ] refl

-- it lies in its matrix
within-placed : (d : Diagonal) (size : ℕ) (u : VectorEntries) → AllByRecursion (λ e. e.0 < size) u
    → AllByRecursion (λ e. (e.0.0 < diagonal_size d size) × (e.0.1 < diagonal_size d size)) (placed (down d) (up d) u)
within-placed d size [] w = tt
within-placed d size (e ∷ u) w = let l = w.0 in ((omega (arith, l), omega (arith, l)), within-placed d size u w.1)

pub diagonal_whole : (d : Diagonal) (of : Domain) (n : ℕ) (u : Vector) (m : MatrixEntries) → IsVector u → n ≡ diagonal_size d u.size → IsDimension (diagonal_size d u.size)
    → m ≡ placed (down d) (up d) u.entries → All (λ e. IsValueOf of e.1) m → IsMatrix (matrix_of of n n m)
diagonal_whole d of n u m h s fits is v =
    let size = diagonal_size d u.size in
    subst (λ k. IsMatrix (matrix_of of k k m)) (sym s) (record {
      nrows = fits;
      ncols = fits;
      ordered = subst (λ (x : MatrixEntries). IsTrue (is_sorted cell_cmp x)) (sym is) (made_true _ (sorted-placed (down d) (up d) u.entries (holds _ h.ordered)));
      within = subst (λ (x : MatrixEntries). All (λ e. (e.0.0 < size) × (e.0.1 < size)) x) (sym is)
          (All-from_recursion (λ (e : Cell × Value). (e.0.0 < size) × (e.0.1 < size)) _ (within-placed d u.size u.entries (recursion_from_All (λ (e : ℕ × Value). e.0 < u.size) u.entries h.within)));
      of_domain = v;
    })

-- indices of entries in order rise
pub indices-rise : {V : Type 0} (value : V → Value) (js : List ℕ) (vs : List V) → length js ≡ length vs → T (is_sorted nat_cmp (entries_of value js vs))
    → (i j : ℕ) → i < j → j < length js → get_or js i 0 < get_or js j 0
indices-rise value js vs same h =
    keys_strict js (map value vs) (length-map vs value ∙ sym same) (subst (λ (m : VectorEntries). T (is_sorted nat_cmp m)) (entries-paired value js vs) h)

module _ {V : Type 0} (tv : V → Value) (down up : ℕ) (js : List ℕ) (vs : List V) where
  -- the first entries stand, each in a row of its own
  pub record IsPlacing (at : ℕ) (rows starts columns : List ℕ) (values : List V) : Type 0 where
    pub rows_are : rows ≡ map (λ i. i + down) (take at js)
    pub long : length columns ≡ at
    pub same : length values ≡ length columns
    pub flat : IsFlat rows starts columns
    pub so_far : flat_entries tv rows starts columns values ≡ placed down up (first_entries tv at js vs)

  pub placing_begins : (rows starts columns : List ℕ) (values : List V) → rows ≡ [] → starts ≡ [] → columns ≡ [] → values ≡ [] → IsPlacing 0 rows starts columns values
  placing_begins rows starts columns values no_rows no_starts no_columns no_values =
      record {
        rows_are = no_rows;
        long = ap length no_columns;
        same = ap length no_values ∙ sym (ap length no_columns);
        flat = subst (λ (s : List ℕ). IsFlat s starts columns) (sym no_rows) (subst (λ (s : List ℕ). IsFlat [] s columns) (sym no_starts) (subst (IsFlat [] []) (sym no_columns) flat_nothing));
        so_far = ap (λ (s : List ℕ). flat_entries tv s starts columns values) no_rows ∙ ap (λ (s : List ℕ). flat_entries tv [] s columns values) no_starts ∙ ap (λ (s : List ℕ). flat_entries tv [] [] s values) no_columns;
      }

  module _ (rise : (i j : ℕ) → i < j → j < length js → get_or js i 0 < get_or js j 0) (same_length : length js ≡ length vs)
      (at r s c : ℕ) (x : V) (rows starts columns rows2 starts2 columns2 : List ℕ) (values values2 : List V) (before : IsPlacing at rows starts columns values)
      (inside : at < length js) (is_x : x ≡ get_or vs at x) (is_r : r ≡ get_or js at 0 + down) (is_s : s ≡ at) (is_c : c ≡ get_or js at 0 + up) (fits : c < 4294967296)
      (rows_are2 : rows2 ≡ rows ++ r ∷ []) (starts_are : starts2 ≡ starts ++ s ∷ []) (columns_are : columns2 ≡ columns ++ c ∷ []) (values_are : values2 ≡ values ++ x ∷ []) where
    below_this : (n : ℕ) → n < length rows → get_or rows n 0 < r
    below_this n l =
        let taken = length-take-le at js (omega (arith, inside)) in
        let long = ap length before.rows_are ∙ length-map (take at js) (λ i. i + down) in
        let earlier : n < at = omega (arith, l, long, taken) in
        let up = rise n at earlier inside in
        let here = ap (λ (q : List ℕ). get_or q n 0) before.rows_are ∙ get_or-map (λ i. i + down) (take at js) n 0 0 (omega (arith, earlier, taken)) ∙ ap (λ i. i + down) (get_or-take at js n 0 earlier) in
        omega (arith, up, here, is_r)

    one_fits : (i : ℕ) → i < 1 → get_or (c ∷ []) i 0 < 4294967296
    one_fits i l = subst (λ n. get_or (c ∷ []) n 0 < 4294967296) (zero_is i l) fits
      where
        zero_is : (i : ℕ) → i < 1 → 0 ≡ i
        zero_is i l = omega (arith, l)

    starts_pushed : starts2 ≡ starts ++ length columns ∷ []
    starts_pushed = starts_are ∙ ap (λ n. starts ++ n ∷ []) (is_s ∙ sym before.long)

    pub placing_on : IsPlacing (at + 1) rows2 starts2 columns2 values2
    placing_on = record {
      rows_are = rows_are2 ∙ ap (λ (q : List ℕ). q ++ r ∷ []) before.rows_are ∙ ap (λ n. map (λ i. i + down) (take at js) ++ n ∷ []) is_r
          ∙ sym (map-append (λ i. i + down) (take at js) (get_or js at 0 ∷ [])) ∙ sym (ap (map (λ i. i + down)) (take_more js at 0 inside));
      long = let n = length_push columns c in let is = ap length columns_are in omega (arith, n, is, before.long);
      same = ap length values_are ∙ length_push values x ∙ ap (λ n. n + 1) before.same ∙ sym (length_push columns c) ∙ sym (ap length columns_are);
      flat = subst (λ (q : List ℕ). IsFlat q starts2 columns2) (sym rows_are2)
          (subst (λ (q : List ℕ). IsFlat (rows ++ r ∷ []) q columns2) (sym starts_pushed)
          (subst (IsFlat (rows ++ r ∷ []) (starts ++ length columns ∷ [])) (sym columns_are)
          (flat-pushed_row tv rows starts columns values r (c ∷ []) (x ∷ []) before.flat one_fits (omega arith) below_this)));
      so_far = ap (λ (q : List ℕ). flat_entries tv q starts2 columns2 values2) rows_are2 ∙ ap (λ (q : List ℕ). flat_entries tv (rows ++ r ∷ []) q columns2 values2) starts_pushed
          ∙ ap (λ (q : List ℕ). flat_entries tv (rows ++ r ∷ []) (starts ++ length columns ∷ []) q values2) columns_are
          ∙ ap (flat_entries tv (rows ++ r ∷ []) (starts ++ length columns ∷ []) (columns ++ c ∷ [])) values_are
          ∙ entries-pushed_row tv rows starts columns values r (c ∷ []) (x ∷ []) before.flat one_fits (sym before.same)
          ∙ ap (λ (m : MatrixEntries). m ++ ((r, c), tv x) ∷ []) before.so_far
          ∙ ap (λ n. placed down up (first_entries tv at js vs) ++ ((n, c), tv x) ∷ []) is_r ∙ ap (λ n. placed down up (first_entries tv at js vs) ++ ((get_or js at 0 + down, n), tv x) ∷ []) is_c
          ∙ sym (ap (placed down up) (first-read tv js vs at x inside same_length is_x)
          ∙ map-append (λ (e : ℕ × Value). ((e.0 + down, e.0 + up), e.1)) (first_entries tv at js vs) ((get_or js at 0, tv x) ∷ []));
    }
