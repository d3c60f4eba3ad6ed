-- The entries of a matrix at their columns: their folds are those of the rows of the transposed.
use Rattle.std.proofs.Common.{◌≡◌, ℕ, ◌<◌, Bool, true, false, cond, List, [], ◌∷◌, refl, sym, ap, subst, ◌∙◌}
use Rattle.std.specs.Prelude.{All, map, filter, nat_eq, Option}
use Rattle.std.specs.List.{AllByRecursion, Contains}
use Rattle.std.proofs.lemmas.List.Elements.{recursion_from_All}
use Rattle.std.specs.Ordering.{nat_cmp, eq_by_cmp}
use Rattle.std.specs.Cmp.{nat_cmp_total}
use Rattle.std.specs.FinMap.{nat_cmp-IsAntisymmetric}
use Rattle.grb_core.specs.declared.value.Value.{Value}
use Rattle.grb_core.specs.declared.monoid.Monoid.{Monoid}
use Rattle.grb_core.specs.Fold.{fold_of_some}
use Rattle.grb_core.specs.Entries.{Cell, VectorEntries, MatrixEntries, built_from, restricted, values_at, values_of}
use Rattle.grb_core.specs.Results.{column_of, reduce_rows_of, row_of, transposed}
use Rattle.grb_core.proofs.Maps.{is_sorted-map_on_indices, same_entries_at}
use Rattle.grb_kernels.specs.Typed.{entries_of}
use Rattle.grb_ewise.proofs.Lent.{lent}
use Rattle.grb_lists.specs.Cells.{decoded}
use Rattle.grb_sums.specs.ColumnSums.{by_column, with_values}
use Rattle.grb_sums.proofs.ColumnFolds.{AreNamed, are_named, find-built}
use Rattle.grb_semirings.proofs.Lent.{values-decoded}
use Rattle.grb_sums.proofs.RowByRow.{find-each_row, is_sorted-each_row, same_test}

abbrev in_column : ℕ → Cell × Value → Bool
in_column j e = nat_eq e.0.1 j

-- what comes to a column are the values of the column
values_at-column : (j : ℕ) (a : MatrixEntries) → values_at nat_cmp j (by_column a) ≡ values_of (column_of j a)
values_at-column j [] = refl
values_at-column j (e ∷ a) =
    ap (λ b. values_of (cond b ((e.0.1, e.1) ∷ restricted (λ l. eq_by_cmp nat_cmp j l) (by_column a)) (restricted (λ l. eq_by_cmp nat_cmp j l) (by_column a)))) (sym (same_test j e.0.1))
    ∙ elim (in_column j e) as (λ b. values_of (cond b ((e.0.1, e.1) ∷ restricted (λ l. eq_by_cmp nat_cmp j l) (by_column a)) (restricted (λ l. eq_by_cmp nat_cmp j l) (by_column a)))
    ≡ values_of (map (λ (x : Cell × Value). (x.0.0, x.1)) (cond b (e ∷ filter (in_column j) a) (filter (in_column j) a)))) [
      | true ↦ ap (λ (t : List Value). e.1 ∷ t) (values_at-column j a)
      | false ↦ values_at-column j a
    ]

-- the build of entries at their columns has the folds of the columns, which are the rows of the transposed
pub built_by_column : (m : Monoid) (a : MatrixEntries) → ((j : ℕ) → row_of j (transposed a) ≡ column_of j a) → built_from nat_cmp m (by_column a) ≡ reduce_rows_of m (transposed a)
built_by_column m a rows =
    same_entries_at nat_cmp nat_cmp_total nat_cmp-IsAntisymmetric _ _
    (is_sorted-map_on_indices nat_cmp nat_cmp_total (λ j. fold_of_some m (values_at nat_cmp j (by_column a))) (by_column a)) (is_sorted-each_row row_fold (transposed a))
    (λ q. find-built m (by_column a) q ∙ ap (fold_of_some m) (values_at-column q a) ∙ ap row_fold (sym (rows q)) ∙ sym (find-each_row row_fold refl (transposed a) q))
  where
    row_fold : VectorEntries → Option Value
    row_fold x = fold_of_some m (values_of x)

-- the columns of these entries
by_column-places : (a : MatrixEntries) → map (λ e. e.0) (by_column a) ≡ map (λ e. e.0.1) a
by_column-places [] = refl
by_column-places (e ∷ a) = ap (λ (t : List ℕ). e.0.1 ∷ t) (by_column-places a)

by_column-values : (a : MatrixEntries) → values_of (by_column a) ≡ values_of a
by_column-values [] = refl
by_column-values (e ∷ a) = ap (λ (t : List Value). e.1 ∷ t) (by_column-values a)

module _ {V : Type 0} (tv : V → Value) (columns : List ℕ) (values : List V) (k : VectorEntries) where
  -- lists that a matrix lends are its entries, each at its column
  pub lent_by_column : columns ≡ map (λ e. e.0.1) (decoded k) → map tv values ≡ values_of k → entries_of tv columns values ≡ by_column (decoded k)
  lent_by_column p q =
      lent tv columns values (by_column (decoded k)) (p ∙ sym (by_column-places (decoded k))) (q ∙ sym (values-decoded k) ∙ sym (by_column-values (decoded k)))

-- each at its own value
pub with_own_values : (m : VectorEntries) → with_values (λ v. v) m ≡ m
with_own_values [] = refl
with_own_values (e ∷ m) = ap (λ (t : VectorEntries). e ∷ t) (with_own_values m)

-- what bounds the columns of a matrix bounds those of its entries
pub by_column-below : (n : ℕ) (a : MatrixEntries) → All (λ e. e.0.1 < n) a → AllByRecursion (λ e. e.0 < n) (by_column a)
by_column-below n a h = below a (recursion_from_All (λ (e : Cell × Value). e.0.1 < n) a h)
  where
    below : (a : MatrixEntries) → AllByRecursion (λ e. e.0.1 < n) a → AllByRecursion (λ e. e.0 < n) (by_column a)
    below [] h = tt
    below (e ∷ a) h = (h.0, below a h.1)

-- names of all columns of a matrix
pub by_column-named : (names : List ℕ) (a : MatrixEntries) → ((j : ℕ) → Contains (map (λ e. e.0.1) a) j → Contains names j) → AreNamed names (by_column a)
by_column-named names a h = are_named names (by_column a) (λ j is. h j (subst (λ (js : List ℕ). Contains js j) (by_column-places a) is))
