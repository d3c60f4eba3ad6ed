-- The sums by column of what a vector makes of the rows that it picks are the products of the vector with each column.
use Rattle.std.proofs.Common.{◌≡◌, ℕ, Bool, true, false, cond, List, [], ◌∷◌, ◌++◌, refl, sym, ap, subst, ◌∙◌}
use Rattle.std.specs.Prelude.{◌&&◌, Option, Some, None, IsTrue}
use Rattle.std.specs.declared.cmp.Ordering.TheVariants.{Less, Equal, Greater}
use Rattle.std.specs.Ordering.{nat_cmp, is_eq, eq_by_cmp}
use Rattle.std.specs.Cmp.{nat_cmp_total}
use Rattle.std.specs.FinMap.{is_sorted, find, nat_cmp-IsAntisymmetric}
use lib.Dec.{T}
use Rattle.grb_core.specs.declared.value.Value.{Value}
use Rattle.grb_core.specs.declared.monoid.Monoid.{Monoid}
use Rattle.grb_core.specs.Fold.{fold_of_some}
use Rattle.grb_core.specs.Entries.{VectorEntries, MatrixEntries, before_entries, built_from, cell_cmp, map_on, places_of, restricted, values_at, values_of}
use Rattle.grb_core.specs.Operator.{value_of_op}
use Rattle.grb_core.specs.Semiring.{SemiringParts}
use Rattle.grb_core.specs.Written.{pointwise, both_values}
use Rattle.grb_core.specs.Results.{row_of, column_of, product_of, mxv_of, transposed}
use Rattle.grb_core.proofs.Maps.{find-tied_below, is_sorted-map_on_indices, same_entries_at}
use Rattle.grb_core.proofs.Written.{find-pointwise, is_sorted-pointwise}
use Rattle.grb_sums.specs.ColumnSums.{with_values}
use Rattle.grb_sums.proofs.ColumnFolds.{find-built}
use Rattle.grb_sums.proofs.SumsByColumn.{values_at-append}
use Rattle.grb_semirings.specs.Products.{list_of}
use Rattle.grb_push.specs.Pushes.{pushed, pushed_of}
use Rattle.grb_push.proofs.Columns.{find-crossed, find-transposed, find-each_column, is_sorted-each_column}
use Rattle.grb_push.proofs.Ordered.{row-sorted, map_on-same}
use Rattle.grb_sums.proofs.RowByRow.{find-each_row, is_sorted-each_row}
use Rattle.grb_semirings.proofs.Sums.{zipped, pointwise-zipped}

fst : (a b : Bool) → T (a && b) → T a
fst true b p = tt
fst false b p = absurd p

snd : (a b : Bool) → T (a && b) → T b
snd true b p = p
snd false b p = absurd p

pub holds : (b : Bool) → IsTrue b → T b
holds b e = subst T (sym e) tt

map_on-none : (ks : List ℕ) → map_on ks (λ k. None) ≡ []
map_on-none [] = refl
map_on-none (k ∷ ks) = map_on-none ks

module _ (f : Value → Value → Value) where
  -- what a row adds to a column
  values_at-row : (q : ℕ) (x : Value) (m : VectorEntries) → T (is_sorted nat_cmp m) → values_at nat_cmp q (with_values (f x) m) ≡ list_of (both_values f (Some x) (find nat_cmp q m))
  values_at-row q x [] h = refl
  values_at-row q x (e ∷ m) h =
      let rest = values_at-row q x m (snd _ _ h) in
      elim (nat_cmp q e.0) as (λ r. nat_cmp q e.0 ≡ r
      → values_of (cond (is_eq r) ((e.0, f x e.1) ∷ restricted (λ l. eq_by_cmp nat_cmp q l) (with_values (f x) m)) (restricted (λ l. eq_by_cmp nat_cmp q l) (with_values (f x) m)))
      ≡ list_of (both_values f (Some x) (cond (is_eq r) (Some e.1) (find nat_cmp q m)))) [
        | Less ↦ λ t. rest
        | Equal ↦ λ t. ap (λ (vs : List Value). f x e.1 ∷ vs)
            (rest ∙ ap (λ w. list_of (both_values f (Some x) w)) (find-tied_below nat_cmp nat_cmp_total e.0 q m (fst _ _ h) t))
        | Greater ↦ λ t. rest
      ] refl

  values_of-before : (k : ℕ) (w : Option Value) (m : VectorEntries) → values_of (before_entries k w m) ≡ list_of w ++ values_of m
  values_of-before k None m = refl
  values_of-before k (Some v) m = refl

  -- what all rows add to a column
  values_at-zipped : (q : ℕ) (u : VectorEntries) (a : MatrixEntries) → T (is_sorted cell_cmp a)
      → values_at nat_cmp q (pushed f u a) ≡ values_of (zipped (both_values f) (λ k. find nat_cmp k (column_of q a)) u)
  values_at-zipped q [] a h = refl
  values_at-zipped q (e ∷ u) a h =
      let w = both_values f (Some e.1) (find nat_cmp e.0 (column_of q a)) in
      values_at-append q (with_values (f e.1) (row_of e.0 a)) (pushed f u a)
      ∙ ap (λ (vs : List Value). vs ++ values_at nat_cmp q (pushed f u a))
      (values_at-row q e.1 (row_of e.0 a) (row-sorted e.0 a h) ∙ ap (λ o. list_of (both_values f (Some e.1) o)) (find-crossed e.0 q a))
      ∙ ap (λ (vs : List Value). list_of w ++ vs) (values_at-zipped q u a h)
      ∙ sym (values_of-before e.0 w (zipped (both_values f) (λ k. find nat_cmp k (column_of q a)) u))

  both_none : (w : Option Value) → both_values f None w ≡ None
  both_none w = refl

  values_at-pushed : (q : ℕ) (u : VectorEntries) (a : MatrixEntries) → T (is_sorted nat_cmp u) → T (is_sorted cell_cmp a)
      → values_at nat_cmp q (pushed f u a) ≡ values_of (pointwise nat_cmp (both_values f) u (column_of q a))
  values_at-pushed q u a g h = values_at-zipped q u a h ∙ ap values_of (sym (pointwise-zipped (both_values f) both_none u (column_of q a) g))

  -- of a vector that stores nothing, and of a column that does not
  nothing_pointwise : (m : Monoid) (c : VectorEntries) → fold_of_some m (values_of (pointwise nat_cmp (both_values f) [] c)) ≡ None
  nothing_pointwise m c = ap (λ (x : VectorEntries). fold_of_some m (values_of x)) (pointwise-zipped (both_values f) both_none [] c tt)

  no_value : (w : Option Value) → both_values f w None ≡ None
  no_value (Some x) = refl
  no_value None = refl

  pointwise_nothing : (m : Monoid) (u : VectorEntries) → fold_of_some m (values_of (pointwise nat_cmp (both_values f) u [])) ≡ None
  pointwise_nothing m u =
      ap (λ (x : VectorEntries). fold_of_some m (values_of x))
      (map_on-same (places_of nat_cmp (u ++ [])) (λ k. both_values f (find nat_cmp k u) None) (λ k. None) (λ k. no_value (find nat_cmp k u)) ∙ map_on-none (places_of nat_cmp (u ++ [])))

  -- what is stored at a column of the result
  find-pushed_of : (m : Monoid) (q : ℕ) (u : VectorEntries) (a : MatrixEntries)
      → find nat_cmp q (pushed_of m f u a) ≡ fold_of_some m (values_of (pointwise nat_cmp (both_values f) u (column_of q a)))
  find-pushed_of m q u a = find-each_column (λ c. fold_of_some m (values_of (pointwise nat_cmp (both_values f) u c))) (pointwise_nothing m u) a q

  pub built_from-pushed : (m : Monoid) (u : VectorEntries) (a : MatrixEntries) → T (is_sorted nat_cmp u) → T (is_sorted cell_cmp a)
      → built_from nat_cmp m (pushed f u a) ≡ pushed_of m f u a
  built_from-pushed m u a g h =
      same_entries_at nat_cmp nat_cmp_total nat_cmp-IsAntisymmetric (built_from nat_cmp m (pushed f u a)) (pushed_of m f u a)
      (is_sorted-map_on_indices nat_cmp nat_cmp_total (λ q. fold_of_some m (values_at nat_cmp q (pushed f u a))) (pushed f u a))
      (is_sorted-each_column (λ c. fold_of_some m (values_of (pointwise nat_cmp (both_values f) u c))) a)
      (λ q. find-built m (pushed f u a) q ∙ ap (fold_of_some m) (values_at-pushed q u a g h) ∙ sym (find-pushed_of m q u a))

-- the products of a matrix's columns with a vector are those of the transposed's rows
exchanged_both : (f : Value → Value → Value) (v w : Option Value) → both_values (λ x y. f y x) v w ≡ both_values f w v
exchanged_both f (Some x) (Some y) = refl
exchanged_both f (Some x) None = refl
exchanged_both f None (Some y) = refl
exchanged_both f None None = refl

exchanged_pointwise : (f : Value → Value → Value) (u c d : VectorEntries) → ((k : ℕ) → find nat_cmp k d ≡ find nat_cmp k c)
    → pointwise nat_cmp (both_values (λ x y. f y x)) u c ≡ pointwise nat_cmp (both_values f) d u
exchanged_pointwise f u c d same =
    same_entries_at nat_cmp nat_cmp_total nat_cmp-IsAntisymmetric (pointwise nat_cmp (both_values (λ x y. f y x)) u c) (pointwise nat_cmp (both_values f) d u)
    (is_sorted-pointwise nat_cmp_total nat_cmp-IsAntisymmetric (both_values (λ x y. f y x)) u c) (is_sorted-pointwise nat_cmp_total nat_cmp-IsAntisymmetric (both_values f) d u)
    (λ k. find-pointwise nat_cmp_total nat_cmp-IsAntisymmetric (both_values (λ x y. f y x)) refl k u c
    ∙ exchanged_both f (find nat_cmp k u) (find nat_cmp k c)
    ∙ ap (λ w. both_values f w (find nat_cmp k u)) (sym (same k))
    ∙ sym (find-pointwise nat_cmp_total nat_cmp-IsAntisymmetric (both_values f) refl k d u))

pub pushed_of-exchanged : (s : SemiringParts) (u : VectorEntries) (a : MatrixEntries) → pushed_of s.monoid (λ x y. value_of_op s.op y x) u a ≡ mxv_of s (transposed a) u
pushed_of-exchanged s u a =
    let f = value_of_op s.op in
    same_entries_at nat_cmp nat_cmp_total nat_cmp-IsAntisymmetric (pushed_of s.monoid (λ x y. f y x) u a) (mxv_of s (transposed a) u)
    (is_sorted-each_column (λ c. fold_of_some s.monoid (values_of (pointwise nat_cmp (both_values (λ x y. f y x)) u c))) a)
    (is_sorted-each_row (λ x. product_of s x u) (transposed a))
    (λ q. find-pushed_of (λ x y. f y x) s.monoid q u a
    ∙ ap (λ (m : VectorEntries). fold_of_some s.monoid (values_of m)) (exchanged_pointwise f u (column_of q a) (row_of q (transposed a)) (λ k. find-transposed q k a))
    ∙ sym (find-each_row (λ x. product_of s x u) (nothing_pointwise f s.monoid u) (transposed a) q))
