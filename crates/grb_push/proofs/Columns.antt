-- What is stored in the columns of a matrix, and in the rows of the transposed.
use Rattle.std.proofs.Common.{◌≡◌, ℕ, Bool, true, false, nat_eq, cond, [], ◌∷◌, refl, sym, ap, subst, ◌∙◌}
use Rattle.std.specs.Prelude.{◌&&◌, map, filter, Option, Some, None}
use Rattle.std.specs.declared.cmp.Ordering.{Ordering}
use Rattle.std.specs.declared.cmp.Ordering.TheVariants.{Less, Equal, Greater}
use Rattle.std.specs.Ordering.{nat_cmp, is_eq, eq_by_cmp, ordering_then}
use Rattle.std.specs.FinMap.{find}
use lib.Dec.{T}
use Rattle.std.specs.FinMap.{is_sorted}
use Rattle.grb_core.specs.declared.value.Value.{Value}
use Rattle.grb_core.specs.Entries.{Cell, VectorEntries, MatrixEntries, cell_cmp, map_on, places_of}
use Rattle.grb_core.specs.Results.{row_of, column_of, each_row, each_column, transposed, turned_entry}
use Rattle.grb_core.proofs.Maps.{cell_cmp_total, find-map_from}
use Rattle.grb_push.proofs.Ordered.{map_on-same}
use Rattle.grb_sums.proofs.RowByRow.{same_test, find-each_row, is_sorted-each_row, by_row, in_its_row, is_in}

-- two cells tie where both numbers do
then_tie : (r t : Ordering) → is_eq (ordering_then r t) ≡ (is_eq r && is_eq t)
then_tie Less t = refl
then_tie Equal t = refl
then_tie Greater t = refl

and_turned : (a b : Bool) → (a && b) ≡ (b && a)
and_turned true true = refl
and_turned true false = refl
and_turned false true = refl
and_turned false false = refl

cell_tie : (p q : Cell) → eq_by_cmp cell_cmp p q ≡ (eq_by_cmp nat_cmp p.0 q.0 && eq_by_cmp nat_cmp p.1 q.1)
cell_tie p q = then_tie (nat_cmp p.0 q.0) (nat_cmp p.1 q.1)

-- what a row stores
find-row_of : (i j : ℕ) (a : MatrixEntries) → find nat_cmp j (row_of i a) ≡ find cell_cmp (i, j) a
find-row_of i j [] = refl
find-row_of i j (e ∷ a) =
    ap (λ b. find nat_cmp j (map in_its_row (cond b (e ∷ filter (is_in i) a) (filter (is_in i) a)))) (same_test i e.0.0)
    ∙ by_case (eq_by_cmp nat_cmp i e.0.0) (find-row_of i j a)
    ∙ ap (λ b. cond b (Some e.1) (find cell_cmp (i, j) a)) (sym (cell_tie (i, j) e.0))
  where
    by_case : (b : Bool) → find nat_cmp j (row_of i a) ≡ find cell_cmp (i, j) a → find nat_cmp j (map in_its_row (cond b (e ∷ filter (is_in i) a) (filter (is_in i) a))) ≡ cond (b && eq_by_cmp nat_cmp j e.0.1) (Some e.1) (find cell_cmp (i, j) a)
    by_case true rest = ap (cond (eq_by_cmp nat_cmp j e.0.1) (Some e.1)) rest
    by_case false rest = rest

find-turned : (i j : ℕ) (a : MatrixEntries) → find cell_cmp (j, i) (map turned_entry a) ≡ find cell_cmp (i, j) a
find-turned i j [] = refl
find-turned i j (e ∷ a) =
    ap (λ b. cond b (Some e.1) (find cell_cmp (j, i) (map turned_entry a)))
    (cell_tie (j, i) (e.0.1, e.0.0) ∙ and_turned (eq_by_cmp nat_cmp j e.0.1) (eq_by_cmp nat_cmp i e.0.0) ∙ sym (cell_tie (i, j) e.0))
    ∙ ap (cond (eq_by_cmp cell_cmp (i, j) e.0) (Some e.1)) (find-turned i j a)

-- a column is a row of the turned entries, however these are ordered
row_of-turned : (j : ℕ) (a : MatrixEntries) → row_of j (map turned_entry a) ≡ column_of j a
row_of-turned j [] = refl
row_of-turned j (e ∷ a) =
    elim (nat_eq e.0.1 j) as (λ b. map in_its_row (cond b (turned_entry e ∷ filter (is_in j) (map turned_entry a)) (filter (is_in j) (map turned_entry a)))
    ≡ map (λ (x : Cell × Value). (x.0.0, x.1)) (cond b (e ∷ filter (λ x. nat_eq x.0.1 j) a) (filter (λ x. nat_eq x.0.1 j) a))) [
      | true ↦ ap (λ (m : VectorEntries). (e.0.0, e.1) ∷ m) (row_of-turned j a)
      | false ↦ row_of-turned j a
    ]

by_row-turned : (a : MatrixEntries) → by_row (map turned_entry a) ≡ map (λ (e : Cell × Value). (e.0.1, e.1)) a
by_row-turned [] = refl
by_row-turned (e ∷ a) = ap (λ (m : VectorEntries). (e.0.1, e.1) ∷ m) (by_row-turned a)

each_row-turned : (f : VectorEntries → Option Value) (a : MatrixEntries) → each_row f (map turned_entry a) ≡ each_column f a
each_row-turned f a =
    map_on-same (places_of nat_cmp (by_row (map turned_entry a))) (λ j. f (row_of j (map turned_entry a))) (λ j. f (column_of j a)) (λ j. ap f (row_of-turned j a))
    ∙ ap (λ (m : VectorEntries). map_on (places_of nat_cmp m) (λ j. f (column_of j a))) (by_row-turned a)

-- what is stored in a row at a column is stored in the column at the row
pub find-crossed : (i j : ℕ) (a : MatrixEntries) → find nat_cmp j (row_of i a) ≡ find nat_cmp i (column_of j a)
find-crossed i j a =
    find-row_of i j a
    ∙ sym (find-turned i j a)
    ∙ sym (find-row_of j i (map turned_entry a))
    ∙ ap (find nat_cmp i) (row_of-turned j a)

-- what the transposed stores in a row
pub find-transposed : (j i : ℕ) (a : MatrixEntries) → find nat_cmp i (row_of j (transposed a)) ≡ find nat_cmp i (column_of j a)
find-transposed j i a =
    find-row_of j i (transposed a)
    ∙ find-map_from cell_cmp cell_cmp_total (j, i) (map turned_entry a)
    ∙ sym (find-row_of j i (map turned_entry a))
    ∙ ap (find nat_cmp i) (row_of-turned j a)

-- a value made of each column
pub find-each_column : (f : VectorEntries → Option Value) → f [] ≡ None → (a : MatrixEntries) (q : ℕ) → find nat_cmp q (each_column f a) ≡ f (column_of q a)
find-each_column f none a q = ap (find nat_cmp q) (sym (each_row-turned f a)) ∙ find-each_row f none (map turned_entry a) q ∙ ap f (row_of-turned q a)

pub is_sorted-each_column : (f : VectorEntries → Option Value) (a : MatrixEntries) → T (is_sorted nat_cmp (each_column f a))
is_sorted-each_column f a = subst (λ (m : VectorEntries). T (is_sorted nat_cmp m)) (each_row-turned f a) (is_sorted-each_row f (map turned_entry a))
