-- The product of two matrices, row by row.
use Rattle.std.proofs.Common.{◌≡◌, ℕ, Bool, true, false, cond, List, [], ◌∷◌, ◌++◌, refl, sym, ap, ◌∙◌}
use Rattle.std.specs.Prelude.{◌&&◌, Option, Some, None, is_some, map, filter}
use Rattle.std.specs.declared.cmp.Ordering.TheVariants.{Less, Equal, Greater}
use Rattle.std.specs.Ordering.{nat_cmp, is_lt, is_eq, eq_by_cmp}
use Rattle.std.specs.Cmp.{nat_cmp_total}
use Rattle.std.specs.FinMap.{find, is_sorted, nat_cmp-IsAntisymmetric}
use Rattle.std.specs.FinMap.Entries.{below_all}
use lib.Dec.{T}
use Rattle.grb_core.specs.declared.value.Value.{Value}
use Rattle.grb_core.specs.Semiring.{SemiringParts}
use Rattle.grb_core.specs.Entries.{Cell, cell_cmp, VectorEntries, MatrixEntries, before_entries, map_on, map_from}
use Rattle.grb_core.specs.Results.{row_of, column_of, rows_of, columns_of, cells_between, product_of, mxm_of}
use Rattle.grb_core.proofs.Maps.{same_entries_at, is_sorted-map_from, find-map_from, is_sorted-map_on_indices}
use Rattle.grb_core.proofs.Gridded.{is_sorted-cells}
use Rattle.grb_ewise.proofs.MatrixRows.{with_row, by_row, find-with_row, find-row, row-sorted}
use Rattle.grb_sums.proofs.RowByRow.{same_test, in_its_row, is_in}
use Rattle.grb_semirings.proofs.Sums.{product_of-products}
use Rattle.grb_mxm.specs.RowProducts.{product_row}

and : (a b : Bool) → T a → T b → T (a && b)
and true b p q = q
and false b p q = absurd p

fst : (a b : Bool) → T (a && b) → T a
fst true b p = tt
fst false b p = absurd p

snd : (a b : Bool) → T (a && b) → T b
snd true b p = p
snd false b p = absurd p

-- these rows, each with what g makes of it
abbrev flat_rows : List ℕ → (ℕ → VectorEntries) → MatrixEntries
flat_rows [] g = []
flat_rows (i ∷ is) g = with_row i (g i) ++ flat_rows is g

map_on-append : (ks ls : List Cell) (f : Cell → Option Value) → map_on (ks ++ ls) f ≡ map_on ks f ++ map_on ls f
map_on-append [] ls f = refl
map_on-append (k ∷ ks) ls f =
    ap (before_entries k (f k)) (map_on-append ks ls f) ∙ out (f k)
  where
    out : (w : Option Value) → before_entries k w (map_on ks f ++ map_on ls f) ≡ before_entries k w (map_on ks f) ++ map_on ls f
    out None = refl
    out (Some v) = refl

map_on-row : (i : ℕ) (js : List ℕ) (f : Cell → Option Value) → map_on (map (λ j. (i, j)) js) f ≡ with_row i (map_on js (λ j. f (i, j)))
map_on-row i [] f = refl
map_on-row i (j ∷ js) f = ap (before_entries (i, j) (f (i, j))) (map_on-row i js f) ∙ out (f (i, j))
  where
    out : (w : Option Value) → before_entries (i, j) w (with_row i (map_on js (λ j. f (i, j)))) ≡ with_row i (before_entries j w (map_on js (λ j. f (i, j))))
    out None = refl
    out (Some v) = refl

map_on-cells : (is js : List ℕ) (f : Cell → Option Value) → map_on (cells_between is js) f ≡ flat_rows is (λ i. map_on js (λ j. f (i, j)))
map_on-cells [] js f = refl
map_on-cells (i ∷ is) js f =
    map_on-append (map (λ j. (i, j)) js) (cells_between is js) f
    ∙ ap (λ m. m ++ map_on (cells_between is js) f) (map_on-row i js f)
    ∙ ap (λ m. with_row i (map_on js (λ j. f (i, j))) ++ m) (map_on-cells is js f)

below-with : (r k : ℕ) (x : VectorEntries) (a : MatrixEntries) → T (is_lt (nat_cmp r k)) → T (below_all nat_cmp r (by_row a)) → T (below_all nat_cmp r (by_row (with_row k x ++ a)))
below-with r k [] a l h = h
below-with r k (e ∷ x) a l h = and _ _ l (below-with r k x a l h)

module _ (g : ℕ → VectorEntries) where
  below-flat : (r : ℕ) (m : VectorEntries) → T (below_all nat_cmp r m) → T (below_all nat_cmp r (by_row (flat_rows (map (λ e. e.0) m) g)))
  below-flat r [] h = tt
  below-flat r (e ∷ m) h = below-with r e.0 (g e.0) (flat_rows (map (λ e. e.0) m) g) (fst _ _ h) (below-flat r m (snd _ _ h))

  find-flat : (q : Cell) (m : VectorEntries) → T (is_sorted nat_cmp m) → find cell_cmp q (flat_rows (map (λ e. e.0) m) g) ≡ cond (is_some (find nat_cmp q.0 m)) (find nat_cmp q.1 (g q.0)) None
  find-flat q [] h = refl
  find-flat q (e ∷ m) h =
      find-with_row q e.0 (g e.0) (flat_rows (map (λ e. e.0) m) g) (below-flat e.0 m (fst _ _ h))
      ∙ ap (cond (eq_by_cmp nat_cmp q.0 e.0) (find nat_cmp q.1 (g e.0))) (find-flat q m (snd _ _ h))
      ∙ elim (nat_cmp q.0 e.0) as (λ o. nat_cmp q.0 e.0 ≡ o → cond (is_eq o) (find nat_cmp q.1 (g e.0)) (cond (is_some (find nat_cmp q.0 m)) (find nat_cmp q.1 (g q.0)) None) ≡ cond (is_some (cond (is_eq o) (Some e.1) (find nat_cmp q.0 m))) (find nat_cmp q.1 (g q.0)) None) [
        | Less ↦ λ t. refl
        | Equal ↦ λ t. ap (λ k. find nat_cmp q.1 (g k)) (sym (nat_cmp-IsAntisymmetric q.0 e.0 t))
        | Greater ↦ λ t. refl
      ] refl

-- a row that stores nothing
pub row_of-none : (q : ℕ) (a : MatrixEntries) → find nat_cmp q (by_row a) ≡ None → row_of q a ≡ []
row_of-none q [] h = refl
row_of-none q (e ∷ a) h =
    ap (λ b. map in_its_row (cond b (e ∷ filter (is_in q) a) (filter (is_in q) a))) (same_test q e.0.0)
    ∙ elim (eq_by_cmp nat_cmp q e.0.0) as (λ b. cond b (Some e.1) (find nat_cmp q (by_row a)) ≡ None → map in_its_row (cond b (e ∷ filter (is_in q) a) (filter (is_in q) a)) ≡ []) [
      | true ↦ λ (n : Some e.1 ≡ None). cc
      | false ↦ λ n. row_of-none q a n
    ] h

-- the product of a row is in order
pub product_row-sorted : (s : SemiringParts) (x : VectorEntries) (b : MatrixEntries) → T (is_sorted nat_cmp (product_row s x b))
product_row-sorted s x b = is_sorted-map_on_indices nat_cmp nat_cmp_total (λ j. product_of s x (column_of j b)) (map in_its_row b)

module _ (s : SemiringParts) (a b : MatrixEntries) where
  -- has no product
  no_product : product_row s [] b ≡ []
  no_product = all_none (columns_of b)
    where
      all_none : (js : List ℕ) → map_on js (λ j. product_of s [] (column_of j b)) ≡ []
      all_none [] = refl
      all_none (j ∷ js) = ap (λ w. before_entries j w (map_on js (λ j. product_of s [] (column_of j b)))) (product_of-products s [] (column_of j b) refl) ∙ all_none js

  pub sorted-mxm : T (is_sorted cell_cmp (mxm_of s a b))
  sorted-mxm = is_sorted-cells a b (λ cell. product_of s (row_of cell.0 a) (column_of cell.1 b))

  pub find-mxm : (q : Cell) → find cell_cmp q (mxm_of s a b) ≡ find nat_cmp q.1 (product_row s (row_of q.0 a) b)
  find-mxm q =
      ap (find cell_cmp q) (map_on-cells (rows_of a) (columns_of b) (λ cell. product_of s (row_of cell.0 a) (column_of cell.1 b)))
      ∙ find-flat (λ i. product_row s (row_of i a) b) q (map_from nat_cmp (by_row a)) (is_sorted-map_from nat_cmp nat_cmp_total (by_row a))
      ∙ ap (λ w. cond (is_some w) (find nat_cmp q.1 (product_row s (row_of q.0 a) b)) None) (find-map_from nat_cmp nat_cmp_total q.0 (by_row a))
      ∙ elim (find nat_cmp q.0 (by_row a)) as (λ w. find nat_cmp q.0 (by_row a) ≡ w → cond (is_some w) (find nat_cmp q.1 (product_row s (row_of q.0 a) b)) None ≡ find nat_cmp q.1 (product_row s (row_of q.0 a) b)) [
        | None ↦ λ t. sym (ap (λ (x : VectorEntries). find nat_cmp q.1 (product_row s x b)) (row_of-none q.0 a t) ∙ ap (find nat_cmp q.1) no_product)
        | Some v ↦ λ t. refl
      ] refl

  -- a row of the product is the product of the row
  pub row_of-mxm : (r : ℕ) → row_of r (mxm_of s a b) ≡ product_row s (row_of r a) b
  row_of-mxm r =
      same_entries_at nat_cmp nat_cmp_total nat_cmp-IsAntisymmetric _ _ (row-sorted r (mxm_of s a b) sorted-mxm)
      (is_sorted-map_on_indices nat_cmp nat_cmp_total (λ j. product_of s (row_of r a) (column_of j b)) (map in_its_row b))
      (λ j. find-row (r, j) (mxm_of s a b) ∙ find-mxm (r, j))

  pub no_row-mxm : (r : ℕ) → row_of r a ≡ [] → row_of r (mxm_of s a b) ≡ []
  no_row-mxm r e = row_of-mxm r ∙ ap (λ (x : VectorEntries). product_row s x b) e ∙ no_product
