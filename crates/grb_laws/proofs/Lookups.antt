-- What a product of two matrices stores at a cell: the sum of its products over any places that are enough.
use Rattle.std.proofs.Common.{◌≡◌, ℕ, Bool, true, false, cond, [], ◌∷◌, refl, sym, ap, subst, ◌∙◌}
use Rattle.std.specs.Prelude.{Option, Some, None, is_some, map}
use Rattle.std.specs.declared.cmp.Ordering.TheVariants.{Less, Equal, Greater}
use Rattle.std.specs.Ordering.{nat_cmp, is_eq, eq_by_cmp, ordering_then}
use Rattle.std.specs.Cmp.{nat_cmp_total}
use Rattle.std.specs.FinMap.{find, nat_cmp-IsAntisymmetric}
use Rattle.grb_core.specs.declared.value.Value.{Value}
use Rattle.grb_core.specs.Operator.{op_domain, value_of_op}
use Rattle.grb_core.specs.Monoid.{monoid_domain}
use Rattle.grb_core.specs.Fold.{fold_of_some}
use Rattle.grb_core.specs.Semiring.{SemiringParts}
use Rattle.grb_core.specs.Entries.{Cell, cell_cmp, VectorEntries, MatrixEntries, map_on, places_of, values_of}
use Rattle.grb_core.specs.Written.{both_values}
use Rattle.grb_core.specs.Results.{row_of, column_of, columns_of, product_of, ewise_mult, mxm_of}
use Rattle.grb_core.proofs.Maps.{same_entries_at, find-map_on_indices, is_sorted-map_on_indices}
use Rattle.grb_core.proofs.Written.{find-pointwise, is_sorted-pointwise}
use Rattle.grb_ewise.proofs.MatrixRows.{find-row}
use Rattle.grb_sums.proofs.RowByRow.{in_its_row}
use Rattle.grb_mxm.proofs.OpenRow.{transposed}
use Rattle.grb_mxm.proofs.ProductRows.{find-mxm}
use Rattle.grb_laws.proofs.Sums.{Is, times, total, total-same, total-none, total_is, times_none, times_is, fold-total}

-- what a column has at a row is what the matrix has at their cell
find-column : (q : Cell) (b : MatrixEntries) → find nat_cmp q.0 (column_of q.1 b) ≡ find cell_cmp q b
find-column q b = transposed b q.0 q.1 ∙ find-row q b

-- nothing is stored in a column that has no entry
pub unstored : (l : ℕ) (b : MatrixEntries) (k : ℕ) → find nat_cmp l (map in_its_row b) ≡ None → find cell_cmp (k, l) b ≡ None
unstored l [] k h = refl
unstored l (e ∷ b) k h =
    let rest = unstored l b k in
    elim (nat_cmp k e.0.0) as (λ r. cond (is_eq (ordering_then r (nat_cmp l e.0.1))) (Some e.1) (find cell_cmp (k, l) b) ≡ None) [
      | Less ↦ rest (later (eq_by_cmp nat_cmp l e.0.1) h)
      | Equal ↦ same_column (eq_by_cmp nat_cmp l e.0.1) rest h
      | Greater ↦ rest (later (eq_by_cmp nat_cmp l e.0.1) h)
    ]
  where
    later : (t : Bool) → cond t (Some e.1) (find nat_cmp l (map in_its_row b)) ≡ None → find nat_cmp l (map in_its_row b) ≡ None
    later true = λ (n : Some e.1 ≡ None). cc
    later false = λ n. n

    same_column : (t : Bool) → (find nat_cmp l (map in_its_row b) ≡ None → find cell_cmp (k, l) b ≡ None) → cond t (Some e.1) (find nat_cmp l (map in_its_row b)) ≡ None → cond t (Some e.1) (find cell_cmp (k, l) b) ≡ None
    same_column true rest = λ (n : Some e.1 ≡ None). cc
    same_column false rest = λ n. rest n

module _ (s : SemiringParts) (one_domain : monoid_domain s.monoid ≡ op_domain s.op) where
  -- the places are enough: where there is none of them, there is no product
  abbrev Enough : VectorEntries → (ℕ → Option Value) → Type 0
  Enough es f = (k : ℕ) → find nat_cmp k es ≡ None → f k ≡ None

  product_of-total : (x y es : VectorEntries) → ((k : ℕ) → Is s (find nat_cmp k x)) → ((k : ℕ) → Is s (find nat_cmp k y)) → Enough es (λ k. times s (find nat_cmp k x) (find nat_cmp k y))
      → product_of s x y ≡ total s (λ k. times s (find nat_cmp k x) (find nat_cmp k y)) (places_of nat_cmp es)
  product_of-total x y es g h enough =
      ap (λ (m : VectorEntries). fold_of_some s.monoid (values_of m)) same
      ∙ fold-total s one_domain f (λ k. times_is s one_domain (find nat_cmp k x) (find nat_cmp k y) (g k) (h k)) (places_of nat_cmp es)
    where
      f : ℕ → Option Value
      f k = times s (find nat_cmp k x) (find nat_cmp k y)

      at : (k : ℕ) (w : Option Value) → find nat_cmp k es ≡ w → f k ≡ cond (is_some w) (f k) None
      at k None t = enough k t
      at k (Some v) t = refl

      same : ewise_mult nat_cmp s.op x y ≡ map_on (places_of nat_cmp es) f
      same =
          same_entries_at nat_cmp nat_cmp_total nat_cmp-IsAntisymmetric _ _ (is_sorted-pointwise nat_cmp_total nat_cmp-IsAntisymmetric (both_values (value_of_op s.op)) x y)
          (is_sorted-map_on_indices nat_cmp nat_cmp_total f es)
          (λ q. find-pointwise nat_cmp_total nat_cmp-IsAntisymmetric (both_values (value_of_op s.op)) refl q x y
          ∙ at q (find nat_cmp q es) refl
          ∙ sym (find-map_on_indices nat_cmp nat_cmp_total nat_cmp-IsAntisymmetric f q es))

  module _ (a b : MatrixEntries) (of_a : (q : Cell) → Is s (find cell_cmp q a)) (of_b : (q : Cell) → Is s (find cell_cmp q b)) where
    -- the product at one place between
    abbrev pub product_at : ℕ → ℕ → ℕ → Option Value
    product_at i l k = times s (find cell_cmp (i, k) a) (find cell_cmp (k, l) b)

    at_is : (i l k : ℕ) → Is s (product_at i l k)
    at_is i l k = times_is s one_domain (find cell_cmp (i, k) a) (find cell_cmp (k, l) b) (of_a (i, k)) (of_b (k, l))

    row_and_column : (i l : ℕ) (es : VectorEntries) → Enough es (product_at i l) → product_of s (row_of i a) (column_of l b) ≡ total s (product_at i l) (places_of nat_cmp es)
    row_and_column i l es enough =
        product_of-total (row_of i a) (column_of l b) es (λ k. subst (Is s) (sym (find-row (i, k) a)) (of_a (i, k))) (λ k. subst (Is s) (sym (find-column (k, l) b)) (of_b (k, l))) (λ k t. same k ∙ enough k t)
        ∙ total-same s _ (product_at i l) same (places_of nat_cmp es)
      where
        same : (k : ℕ) → times s (find nat_cmp k (row_of i a)) (find nat_cmp k (column_of l b)) ≡ product_at i l k
        same k = ap (λ w. times s w (find nat_cmp k (column_of l b))) (find-row (i, k) a) ∙ ap (times s (find cell_cmp (i, k) a)) (find-column (k, l) b)

    pub find-product : (i l : ℕ) (es : VectorEntries) → Enough es (product_at i l) → find cell_cmp (i, l) (mxm_of s a b) ≡ total s (product_at i l) (places_of nat_cmp es)
    find-product i l es enough =
        find-mxm s a b (i, l)
        ∙ find-map_on_indices nat_cmp nat_cmp_total nat_cmp-IsAntisymmetric (λ j. product_of s (row_of i a) (column_of j b)) l (map in_its_row b)
        ∙ stored (find nat_cmp l (map in_its_row b)) refl
        ∙ row_and_column i l es enough
      where
        stored : (w : Option Value) → find nat_cmp l (map in_its_row b) ≡ w → cond (is_some w) (product_of s (row_of i a) (column_of l b)) None ≡ product_of s (row_of i a) (column_of l b)
        stored (Some v) t = refl
        stored None t = sym (row_and_column i l [] (λ k n. ap (times s (find cell_cmp (i, k) a)) (unstored l b k t) ∙ times_none s (find cell_cmp (i, k) a)))

    -- the columns of the first matrix are enough
    pub find-columns : (i l : ℕ) → find cell_cmp (i, l) (mxm_of s a b) ≡ total s (product_at i l) (columns_of a)
    find-columns i l = find-product i l (map in_its_row a) (λ k t. ap (λ w. times s w (find cell_cmp (k, l) b)) (unstored k a i t))

    pub product_is : (q : Cell) → Is s (find cell_cmp q (mxm_of s a b))
    product_is q = subst (Is s) (sym (find-columns q.0 q.1)) (total_is s one_domain (product_at q.0 q.1) (at_is q.0 q.1) (columns_of a))

    -- and so are the columns of the second: the product has no others
    pub unstored_product : (i k : ℕ) → find nat_cmp k (map in_its_row b) ≡ None → find cell_cmp (i, k) (mxm_of s a b) ≡ None
    unstored_product i k t =
        find-columns i k
        ∙ total-none s (product_at i k) (λ j. ap (times s (find cell_cmp (i, j) a)) (unstored k b j t) ∙ times_none s (find cell_cmp (i, j) a)) (columns_of a)
