-- Each row of a matrix in order is in order; and the product of a matrix and a vector whose values lie open.
use Rattle.std.proofs.Common.{◌≡◌, ℕ, Bool, true, false, cond, List, [], ◌∷◌, refl, sym, ap, subst, ◌∙◌}
use Rattle.std.specs.Prelude.{◌&&◌, Option, IsTrue, map, filter}
use Rattle.std.specs.Ordering.{nat_cmp, is_lt, is_eq, eq_by_cmp, ordering_then}
use Rattle.std.specs.declared.cmp.Ordering.TheVariants.{Less, Equal, Greater}
use Rattle.std.specs.FinMap.{is_sorted, nat_cmp-IsAntisymmetric, find}
use Rattle.std.specs.FinMap.Entries.{below_all}
use lib.Dec.{T}
use Rattle.grb_core.specs.declared.value.Value.{Value}
use Rattle.grb_core.specs.Fold.{fold_of_some}
use Rattle.grb_core.specs.Entries.{VectorEntries, MatrixEntries, cell_cmp, map_on, before_entries}
use Rattle.grb_core.specs.Results.{row_of, rows_of, product_of, mxv_of, each_row}
use Rattle.grb_core.specs.Semiring.{SemiringParts}
use Rattle.grb_semirings.specs.Products.{products}
use Rattle.grb_sums.proofs.RowByRow.{same_test, in_its_row, is_in}
use Rattle.grb_semirings.proofs.Sums.{product_of-products, products-same}

and : (a b : Bool) → T a → T b → T (a && b)
and true b p q = q
and false b p q = absurd p

fst : (a b : Bool) → T (a && b) → T a
fst true b p = tt
fst false b p = absurd p

snd : (a b : Bool) → T (a && b) → T b
snd true b p = p
snd false b p = absurd p

by_case : (i : ℕ) (d : (ℕ × ℕ) × Value) (a : MatrixEntries) → row_of i (d ∷ a) ≡ map in_its_row (cond (eq_by_cmp nat_cmp i d.0.0) (d ∷ filter (is_in i) a) (filter (is_in i) a))
by_case i d a = ap (λ b. map in_its_row (cond b (d ∷ filter (is_in i) a) (filter (is_in i) a))) (same_test i d.0.0)

below-row : (i c : ℕ) (a : MatrixEntries) → T (below_all cell_cmp (i, c) a) → T (below_all nat_cmp c (row_of i a))
below-row i c [] h = tt
below-row i c (d ∷ a) h =
    let rest = below-row i c a (snd _ _ h) in
    subst (λ m. T (below_all nat_cmp c m)) (sym (by_case i d a))
    (elim (nat_cmp i d.0.0) as (λ r. T (is_lt (ordering_then r (nat_cmp c d.0.1))) → T (below_all nat_cmp c (map in_its_row (cond (is_eq r) (d ∷ filter (is_in i) a) (filter (is_in i) a))))) [
      | Less ↦ λ g. rest
      | Equal ↦ λ g. and _ _ g rest
      | Greater ↦ λ g. absurd g
    ] (fst _ _ h))

pub row-sorted : (i : ℕ) (a : MatrixEntries) → T (is_sorted cell_cmp a) → T (is_sorted nat_cmp (row_of i a))
row-sorted i [] h = tt
row-sorted i (e ∷ a) h =
    let rest = row-sorted i a (snd _ _ h) in
    subst (λ m. T (is_sorted nat_cmp m)) (sym (by_case i e a))
    (elim (nat_cmp i e.0.0) as (λ r. nat_cmp i e.0.0 ≡ r → T (is_sorted nat_cmp (map in_its_row (cond (is_eq r) (e ∷ filter (is_in i) a) (filter (is_in i) a))))) [
      | Less ↦ λ t. rest
      | Equal ↦ λ t. and _ _ (below-row i e.0.1 a (subst (λ k. T (below_all cell_cmp (k, e.0.1) a)) (sym (nat_cmp-IsAntisymmetric i e.0.0 t)) (fst _ _ h))) rest
      | Greater ↦ λ t. rest
    ] refl)

pub map_on-same : (ks : List ℕ) (f g : ℕ → Option Value) → ((k : ℕ) → f k ≡ g k) → map_on ks f ≡ map_on ks g
map_on-same [] f g h = refl
map_on-same (k ∷ ks) f g h =
    ap (λ w. before_entries k w (map_on ks f)) (h k)
    ∙ ap (before_entries k (g k)) (map_on-same ks f g h)

-- what is made of each row by its products is the product of the matrix and the vector
pub mxv_of-products : (s : SemiringParts) (a : MatrixEntries) (u : VectorEntries) (y : ℕ → Option Value) → IsTrue (is_sorted cell_cmp a) → ((j : ℕ) → y j ≡ find nat_cmp j u)
    → each_row (λ x. fold_of_some s.monoid (products s.op y x)) a ≡ mxv_of s a u
mxv_of-products s a u y h at =
    map_on-same (rows_of a) (λ i. fold_of_some s.monoid (products s.op y (row_of i a))) (λ i. product_of s (row_of i a) u)
    (λ i. ap (fold_of_some s.monoid) (products-same s.op y (λ j. find nat_cmp j u) at (row_of i a)) ∙ sym (product_of-products s (row_of i a) u (passes _ (row-sorted i a (holds _ h)))))
  where
    holds : (b : Bool) → IsTrue b → T b
    holds b e = subst T (sym e) tt

    passes : (b : Bool) → T b → IsTrue b
    passes true h = refl
    passes false h = absurd h
