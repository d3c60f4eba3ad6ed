-- A product with a vector is that with a matrix of one column.
use Rattle.std.proofs.Common.{◌≡◌, ℕ, Bool, true, false, cond, [], ◌∷◌, refl, sym, ap, ◌∙◌}
use Rattle.std.specs.Prelude.{◌&&◌, Option, Some, None, IsTrue, map, filter, nat_eq}
use Rattle.std.specs.declared.cmp.Ordering.{Ordering}
use Rattle.std.specs.declared.cmp.Ordering.TheVariants.{Less, Equal, Greater}
use Rattle.std.specs.Ordering.{nat_cmp, is_lt, is_eq, ordering_then}
use Rattle.std.specs.FinMap.{find, is_sorted}
use Rattle.std.specs.FinMap.Entries.{below_all}
use lib.Dec.{T}
use Rattle.grb_core.specs.declared.value.Value.{Value}
use Rattle.grb_core.specs.Semiring.{SemiringParts}
use Rattle.grb_core.specs.Entries.{Cell, cell_cmp, VectorEntries}
use Rattle.grb_core.specs.Results.{row_of, column_of, product_of, mxv_of, mxm_of}
use Rattle.grb_core.proofs.Maps.{cell_cmp_total, cell_cmp-IsAntisymmetric, same_entries_at}
use Rattle.grb_ewise.proofs.RowEntries.{row_in_order}
use Rattle.grb_sums.proofs.RowByRow.{same_test, find-each_row, is_sorted-each_row}
use Rattle.grb_semirings.proofs.Sums.{product_of-products}
use Rattle.grb_laws.specs.Laws.{as_column, MxvIsMxm}
use Rattle.grb_mxm.proofs.OpenRow.{find-product_row, product_of-nothing}
use Rattle.grb_mxm.proofs.ProductRows.{sorted-mxm, find-mxm}

and : (a b : Bool) → T a → T b → T (a && b)
and true b p q = q
and false b p q = absurd p

fst : (a b : Bool) → T (a && b) → T a
fst true b p = tt
fst false b p = absurd p

snd : (a b : Bool) → T (a && b) → T b
snd true b p = p
snd false b p = absurd p

find-as_column : (q : Cell) (u : VectorEntries) → find cell_cmp q (as_column u) ≡ cond (nat_eq 0 q.1) (find nat_cmp q.0 u) None
find-as_column q [] = elim (nat_eq 0 q.1) as (λ (b : Bool). ◌≡◌ {A = Option Value} None (cond b None None)) [ true ↦ refl | false ↦ refl ]
find-as_column q (e ∷ u) =
    elim (nat_cmp q.0 e.0) as (λ o. cond (is_eq (ordering_then o (nat_cmp q.1 0))) (Some e.1) (find cell_cmp q (as_column u)) ≡ cond (nat_eq 0 q.1) (cond (is_eq o) (Some e.1) (find nat_cmp q.0 u)) None) [
      | Less ↦ find-as_column q u
      | Equal ↦
          ap (cond (is_eq (nat_cmp q.1 0)) (Some e.1)) (find-as_column q u)
          ∙ ap (λ b. cond b (Some e.1) (cond (nat_eq 0 q.1) (find nat_cmp q.0 u) None)) (sym (same_test q.1 0))
          ∙ elim (nat_eq 0 q.1) as (λ b. cond b (Some e.1) (cond b (find nat_cmp q.0 u) None) ≡ cond b (Some e.1) None) [ true ↦ refl | false ↦ refl ]
      | Greater ↦ find-as_column q u
    ]

column_of-as_column : (j : ℕ) (u : VectorEntries) → column_of j (as_column u) ≡ cond (nat_eq 0 j) u []
column_of-as_column j [] = elim (nat_eq 0 j) as (λ (b : Bool). ◌≡◌ {A = VectorEntries} [] (cond b [] [])) [ true ↦ refl | false ↦ refl ]
column_of-as_column j (e ∷ u) =
    elim (nat_eq 0 j) as (λ b. map (λ (d : Cell × Value). (d.0.0, d.1)) (filter (λ (d : Cell × Value). nat_eq d.0.1 j) (as_column u)) ≡ cond b u []
    → map (λ (d : Cell × Value). (d.0.0, d.1)) (cond b (((e.0, 0), e.1) ∷ filter (λ (d : Cell × Value). nat_eq d.0.1 j) (as_column u)) (filter (λ (d : Cell × Value). nat_eq d.0.1 j) (as_column u))) ≡ cond b (e ∷ u) []) [
      | true ↦ λ h. ap (λ (t : VectorEntries). e ∷ t) h
      | false ↦ λ h. h
    ] (column_of-as_column j u)

below-as_column : (k : ℕ) (u : VectorEntries) → T (below_all nat_cmp k u) → T (below_all cell_cmp (k, 0) (as_column u))
below-as_column k [] h = tt
below-as_column k (e ∷ u) h = and _ _ (then_less (nat_cmp k e.0) (nat_cmp 0 0) (fst _ _ h)) (below-as_column k u (snd _ _ h))
  where
    then_less : (o p : Ordering) → T (is_lt o) → T (is_lt (ordering_then o p))
    then_less Less p h = tt
    then_less Equal p h = absurd h
    then_less Greater p h = absurd h

sorted-as_column : (u : VectorEntries) → T (is_sorted nat_cmp u) → T (is_sorted cell_cmp (as_column u))
sorted-as_column [] h = tt
sorted-as_column (e ∷ u) h = and _ _ (below-as_column e.0 u (fst _ _ h)) (sorted-as_column u (snd _ _ h))

by_test : (s : SemiringParts) (x u : VectorEntries) → IsTrue (is_sorted nat_cmp x) → (b : Bool) → product_of s x (cond b u []) ≡ cond b (product_of s x u) None
by_test s x u h true = refl
by_test s x u h false = product_of-nothing s x h

pub mxv_is_mxm : MxvIsMxm
mxv_is_mxm s a u h g =
    same_entries_at cell_cmp cell_cmp_total cell_cmp-IsAntisymmetric (mxm_of s a (as_column u)) (as_column (mxv_of s a u)) (sorted-mxm s a (as_column u)) (sorted-as_column (mxv_of s a u) (is_sorted-each_row (λ x. product_of s x u) a))
    (λ q.
    let x_ordered = row_in_order q.0 a h in
    find-mxm s a (as_column u) q
    ∙ find-product_row s (row_of q.0 a) (as_column u) x_ordered q.1
    ∙ ap (product_of s (row_of q.0 a)) (column_of-as_column q.1 u)
    ∙ by_test s (row_of q.0 a) u x_ordered (nat_eq 0 q.1)
    ∙ sym (find-as_column q (mxv_of s a u) ∙ ap (λ w. cond (nat_eq 0 q.1) w None) (find-each_row (λ x. product_of s x u) (product_of-products s [] u refl) a q.0)))
