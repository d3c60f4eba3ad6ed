-- Flat lists with one more row at their end.
use Rattle.std.proofs.Common.{◌≡◌, ℕ, suc, ◌+◌, ◌-◌, ◌*◌, ◌<◌, ◌≤◌, true, cond, List, [], ◌∷◌, ◌++◌, length, get_or, refl, sym, ap, subst, ◌∙◌, arith, append_assoc}
use Rattle.std.specs.Prelude.{nat_le, map}
use Rattle.std.proofs.lemmas.Bool.Decides.{nat_tests}
use Rattle.std.proofs.lemmas.List.{map-append, length_push}
use Rattle.grb_core.specs.declared.value.Value.{Value}
use Rattle.grb_core.specs.Entries.{Cell, VectorEntries, MatrixEntries}
use Rattle.grb_kernels.specs.Typed.{entries_of}
use Rattle.grb_lists.specs.Cells.{cell_of, decoded, coded, codes_of, row_at, IsFlat}
use Rattle.grb_lists.proofs.CellCodes.{cell_of-code_of}
use Rattle.grb_lists.proofs.FlatCells.{length-codes, standing, new_before, new_flat, same_flat}
use Rattle.grb_kernels.proofs.Lists.{append_nil}
use Rattle.grb_ewise.specs.Rows.{flat_entries}
use Rattle.grb_ewise.proofs.MatrixRows.{with_row}

le_true : (a b : ℕ) → a ≤ b → nat_le a b ≡ true
le_true a b l = grind (arith, nat_tests)

-- ---- the numbers of the cells
coded-append : (p : ℕ) (f : ℕ → ℕ) (xs ys : List ℕ) → coded p f (xs ++ ys) ≡ coded p f xs ++ coded (p + length xs) f ys
coded-append p f [] ys = let e : p ≡ p + 0 = omega arith in ap (λ q. coded q f ys) e
coded-append p f (x ∷ xs) ys =
    let e : suc p + length xs ≡ p + suc (length xs) = omega arith in
    ap (λ (s : List ℕ). (f p * 4294967296 + x) ∷ s) (coded-append (suc p) f xs ys)
    ∙ ap (λ q. (f p * 4294967296 + x) ∷ (coded (suc p) f xs ++ coded q f ys)) e

coded-same : (p : ℕ) (f g : ℕ → ℕ) (xs : List ℕ) → ((q : ℕ) → q < p + length xs → f q ≡ g q) → coded p f xs ≡ coded p g xs
coded-same p f g [] h = refl
coded-same p f g (x ∷ xs) h =
    ap (λ r. (r * 4294967296 + x) ∷ coded (suc p) f xs) (h p (omega arith))
    ∙ ap (λ (s : List ℕ). (g p * 4294967296 + x) ∷ s) (coded-same (suc p) f g xs (λ q l. h q (omega arith)))

-- the numbers of the cells of one row
abbrev in_row_of : ℕ → List ℕ → List ℕ
in_row_of r js = map (λ j. r * 4294967296 + j) js

coded-one_row : (p r : ℕ) (f : ℕ → ℕ) (js : List ℕ) → ((q : ℕ) → p ≤ q → f q ≡ r) → coded p f js ≡ in_row_of r js
coded-one_row p r f [] h = refl
coded-one_row p r f (j ∷ js) h =
    ap (λ k. (k * 4294967296 + j) ∷ coded (suc p) f js) (h p (omega arith))
    ∙ ap (λ (s : List ℕ). (r * 4294967296 + j) ∷ s) (coded-one_row (suc p) r f js (λ q l. h q (omega arith)))

row_at-pushed : (rows starts : List ℕ) (p r x s : ℕ) → length starts ≡ length rows → row_at p r (rows ++ x ∷ []) (starts ++ s ∷ []) ≡ cond (nat_le s p) x (row_at p r rows starts)
row_at-pushed [] [] p r x s n = refl
row_at-pushed [] (t ∷ starts) p r x s n = absurd (omega arith)
row_at-pushed (y ∷ rows) [] p r x s n = absurd (omega arith)
row_at-pushed (y ∷ rows) (t ∷ starts) p r x s n = row_at-pushed rows starts p (cond (nat_le t p) y r) x s (omega arith)

-- ---- entries at cells
entries-append : {V : Type 0} (value : V → Value) (ks ls : List ℕ) (vs ws : List V) → length ks ≡ length vs → entries_of value (ks ++ ls) (vs ++ ws) ≡ entries_of value ks vs ++ entries_of value ls ws
entries-append value [] ls [] ws e = refl
entries-append value [] ls (v ∷ vs) ws e = absurd (omega arith)
entries-append value (k ∷ ks) ls [] ws e = absurd (omega arith)
entries-append value (k ∷ ks) ls (v ∷ vs) ws e = ap (λ (m : VectorEntries). (k, value v) ∷ m) (entries-append value ks ls vs ws (omega arith))

decoded-one_row : {V : Type 0} (value : V → Value) (r : ℕ) (js : List ℕ) (ws : List V) → ((i : ℕ) → i < length js → get_or js i 0 < 4294967296)
    → decoded (entries_of value (in_row_of r js) ws) ≡ with_row r (entries_of value js ws)
decoded-one_row value r [] ws fit = refl
decoded-one_row value r (j ∷ js) [] fit = refl
decoded-one_row value r (j ∷ js) (w ∷ ws) fit =
    ap (λ (c : Cell). (c, value w) ∷ decoded (entries_of value (in_row_of r js) ws)) (cell_of-code_of r j (fit 0 (omega arith)))
    ∙ ap (λ (m : MatrixEntries). ((r, j), value w) ∷ m) (decoded-one_row value r js ws (λ i l. fit (suc i) (omega arith)))

flat-more : (rows starts columns js : List ℕ) → IsFlat rows starts columns → 0 < length rows → ((i : ℕ) → i < length js → get_or js i 0 < 4294967296) → IsFlat rows starts (columns ++ js)
flat-more rows starts columns [] flat some fit = subst (IsFlat rows starts) (sym (append_nil columns)) flat
flat-more rows starts columns (j ∷ js) flat some fit =
    subst (IsFlat rows starts) (append_assoc columns (j ∷ []) js)
    (flat-more rows starts (columns ++ j ∷ []) js (same_flat rows starts columns flat some j (fit 0 (omega arith))) some (λ i l. fit (suc i) (omega arith)))

module _ {V : Type 0} (value : V → Value) (rows starts columns : List ℕ) (values : List V) (r : ℕ) (js : List ℕ) (ws : List V)
    (flat : IsFlat rows starts columns) (fit : (i : ℕ) → i < length js → get_or js i 0 < 4294967296) where
  codes-pushed : codes_of (rows ++ r ∷ []) (starts ++ length columns ∷ []) (columns ++ js) ≡ codes_of rows starts columns ++ in_row_of r js
  codes-pushed =
      let old : ℕ → ℕ = λ p. row_at p 0 rows starts in
      let new : ℕ → ℕ = λ p. row_at p 0 (rows ++ r ∷ []) (starts ++ length columns ∷ []) in
      coded-append 0 new columns js
      ∙ ap (λ (s : List ℕ). s ++ coded (0 + length columns) new js) (coded-same 0 new old columns (λ q l. new_before rows starts columns flat r (rows ++ r ∷ []) (starts ++ length columns ∷ []) refl refl q (omega (arith, l))))
      ∙ ap (λ (s : List ℕ). codes_of rows starts columns ++ s) (coded-one_row (0 + length columns) r new js (λ q l.
      row_at-pushed rows starts q 0 r (length columns) flat.same ∙ ap (λ b. cond b r (row_at q 0 rows starts)) (le_true (length columns) q (omega (arith, l)))))

  -- the entries of the lists with one more row
  pub entries-pushed_row : length columns ≡ length values
      → flat_entries value (rows ++ r ∷ []) (starts ++ length columns ∷ []) (columns ++ js) (values ++ ws) ≡ flat_entries value rows starts columns values ++ with_row r (entries_of value js ws)
  entries-pushed_row same =
      let codes = length-codes rows starts columns flat in
      ap (λ (ks : List ℕ). decoded (entries_of value ks (values ++ ws))) codes-pushed
      ∙ ap decoded (entries-append value (codes_of rows starts columns) (in_row_of r js) values ws (omega (arith, codes, same)))
      ∙ map-append (λ (e : ℕ × Value). (cell_of e.0, e.1)) (entries_of value (codes_of rows starts columns) values) (entries_of value (in_row_of r js) ws)
      ∙ ap (λ (m : MatrixEntries). flat_entries value rows starts columns values ++ m) (decoded-one_row value r js ws fit)

  -- and they are flat lists, if the row comes after the others and is not empty
  pub flat-pushed_row : 0 < length js → ((n : ℕ) → n < length rows → get_or rows n 0 < r) → IsFlat (rows ++ r ∷ []) (starts ++ length columns ∷ []) (columns ++ js)
  flat-pushed_row some below = pushed js some fit
    where
      upto : 0 < length columns → row_at (length columns - 1) 0 rows starts ≤ r
      upto l =
          let s = standing rows starts columns flat (length columns - 1) (omega (arith, l)) in
          let b = below s.0 s.1.0 in
          let e = s.1.3 in
          omega (arith, b, e)

      other : 0 < length rows → get_or rows (length rows - 1) 0 ≡ r → ⊥
      other l e = let b = below (length rows - 1) (omega (arith, l)) in absurd (omega (arith, b, e))

      pushed : (js : List ℕ) → 0 < length js → ((i : ℕ) → i < length js → get_or js i 0 < 4294967296) → IsFlat (rows ++ r ∷ []) (starts ++ length columns ∷ []) (columns ++ js)
      pushed [] some fit = absurd (omega (arith, some))
      pushed (j ∷ js) some fit =
          let more = length_push rows r in
          subst (IsFlat (rows ++ r ∷ []) (starts ++ length columns ∷ [])) (append_assoc columns (j ∷ []) js)
          (flat-more (rows ++ r ∷ []) (starts ++ length columns ∷ []) (columns ++ j ∷ []) js
          (new_flat rows starts columns flat r (rows ++ r ∷ []) (starts ++ length columns ∷ []) refl refl upto other j (fit 0 (omega arith)))
          (omega (arith, more)) (λ i l. fit (suc i) (omega arith)))
