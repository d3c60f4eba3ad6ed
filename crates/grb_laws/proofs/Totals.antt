-- The total of a matrix is that of its row reductions.
use Rattle.std.proofs.Common.{◌≡◌, ℕ, zero, suc, ◌<◌, Bool, true, false, cond, List, [], ◌∷◌, ◌++◌, refl, sym, ap, subst, ◌∙◌, arith, length, get_or}
use Rattle.std.specs.Prelude.{◌&&◌, Some, None, map, filter, nat_eq}
use Rattle.std.specs.List.{AllByRecursion}
use Rattle.std.specs.declared.cmp.Ordering.TheVariants.{Less, Equal, Greater}
use Rattle.std.specs.Ordering.{nat_cmp, is_lt, is_eq}
use Rattle.std.specs.Cmp.{nat_cmp_total}
use Rattle.std.specs.FinMap.{find, is_sorted, nat_cmp-IsAntisymmetric}
use Rattle.std.specs.FinMap.Entries.{below_all}
use Rattle.std.proofs.lemmas.Bool.Decides.{nat_tests}
use Rattle.std.proofs.lemmas.List.Elements.{recursion_from_All}
use lib.Dec.{T}
use Rattle.grb_core.specs.declared.value.Value.{Value}
use Rattle.grb_core.specs.declared.monoid.Monoid.{Monoid}
use Rattle.grb_core.specs.Value.{IsValueOf}
use Rattle.grb_core.specs.Operator.{value_of_op}
use Rattle.grb_core.specs.Monoid.{monoid_op, monoid_domain}
use Rattle.grb_core.specs.Fold.{fold_of, fold_of_some}
use Rattle.grb_core.specs.Entries.{Cell, VectorEntries, MatrixEntries, before_entries, map_on, map_from, values_of}
use Rattle.grb_core.specs.Results.{row_of, rows_of}
use Rattle.grb_core.proofs.Maps.{is_sorted-map_from, find-map_from}
use Rattle.grb_core.proofs.Folds.{fold_of-append, fold_of-is}
use Rattle.grb_core.proofs.MonoidLaws.{monoid_laws}
use Rattle.grb_ewise.proofs.MatrixRows.{with_row, by_row, rows_from, rows_from-all}
use Rattle.grb_laws.specs.Laws.{TotalOfRows}
use Rattle.grb_sums.proofs.Renamed.{holds, passes}
use Rattle.grb_mxm.proofs.ProductRows.{row_of-none}

fst : (a b : Bool) → T (a && b) → T a
fst true b p = tt
fst false b p = absurd p

snd : (a b : Bool) → T (a && b) → T b
snd true b p = p
snd false b p = absurd p

less_of : (k l : ℕ) → T (is_lt (nat_cmp k l)) → k < l
less_of k l h = let e : is_lt (nat_cmp k l) ≡ true = passes _ h in grind (arith, nat_tests)

above : (k : ℕ) (m : VectorEntries) → T (below_all nat_cmp k m) → (j : ℕ) → j < length (map (λ e. e.0) m) → k < get_or (map (λ e. e.0) m) j 0
above k [] h j l = absurd (omega arith)
above k (e ∷ m) h zero l = less_of k e.0 (fst _ _ h)
above k (e ∷ m) h (suc j) l = above k m (snd _ _ h) j (omega arith)

rising : (m : VectorEntries) → T (is_sorted nat_cmp m) → (i j : ℕ) → i < j → j < length (map (λ e. e.0) m) → get_or (map (λ e. e.0) m) i 0 < get_or (map (λ e. e.0) m) j 0
rising [] h i j l u = absurd (omega arith)
rising (e ∷ m) h i zero l u = absurd (omega arith)
rising (e ∷ m) h zero (suc j) l u = above e.0 m (fst _ _ h) j (omega arith)
rising (e ∷ m) h (suc i) (suc j) l u = rising m (snd _ _ h) i j (omega arith) (omega arith)

nowhere : (i : ℕ) (m : VectorEntries) → ((k : ℕ) → k < length (map (λ e. e.0) m) → get_or (map (λ e. e.0) m) k 0 ≡ i → ⊥) → find nat_cmp i m ≡ None
nowhere i [] h = refl
nowhere i (e ∷ m) h =
    elim (nat_cmp i e.0) as (λ o. nat_cmp i e.0 ≡ o → find nat_cmp i m ≡ None → cond (is_eq o) (Some e.1) (find nat_cmp i m) ≡ None) [
      | Less ↦ λ t n. n
      | Equal ↦ λ t n. absurd (h 0 (omega arith) (sym (nat_cmp-IsAntisymmetric i e.0 t)))
      | Greater ↦ λ t n. n
    ] refl (nowhere i m (λ k l e. h (suc k) (omega (arith, l)) e))

values_of-append : (a b : MatrixEntries) → values_of (a ++ b) ≡ values_of a ++ values_of b
values_of-append [] b = refl
values_of-append (e ∷ a) b = ap (λ (t : List Value). e.1 ∷ t) (values_of-append a b)

values_of-with_row : (r : ℕ) (x : VectorEntries) → values_of (with_row r x) ≡ values_of x
values_of-with_row r [] = refl
values_of-with_row r (e ∷ x) = ap (λ (t : List Value). e.1 ∷ t) (values_of-with_row r x)

values_all : {K : Type 0} (P : Value → Type 0) (m : List (K × Value)) → AllByRecursion (λ e. P e.1) m → AllByRecursion P (values_of m)
values_all P [] h = tt
values_all P (e ∷ m) h = (h.0, values_all P m h.1)

row_all : (P : Value → Type 0) (i : ℕ) (a : MatrixEntries) → AllByRecursion (λ e. P e.1) a → AllByRecursion (λ e. P e.1) (row_of i a)
row_all P i [] h = tt
row_all P i (e ∷ a) h =
    elim (nat_eq e.0.0 i) as (λ b. AllByRecursion (λ (e : ℕ × Value). P e.1) (map (λ (d : Cell × Value). (d.0.1, d.1)) (cond b (e ∷ filter (λ (d : Cell × Value). nat_eq d.0.0 i) a) (filter (λ (d : Cell × Value). nat_eq d.0.0 i) a)))) [
      | true ↦ (h.0, row_all P i a h.1)
      | false ↦ row_all P i a h.1
    ]

row_and_rest : (P : Value → Type 0) (r : ℕ) (x : VectorEntries) (b : MatrixEntries) → AllByRecursion (λ e. P e.1) x → AllByRecursion (λ e. P e.1) b → AllByRecursion (λ e. P e.1) (with_row r x ++ b)
row_and_rest P r [] b g h = h
row_and_rest P r (e ∷ x) b g h = (g.0, row_and_rest P r x b g.1 h)

rows_all : (P : Value → Type 0) (a : MatrixEntries) → AllByRecursion (λ e. P e.1) a → (rs : List ℕ) → AllByRecursion (λ e. P e.1) (rows_from a rs)
rows_all P a h [] = tt
rows_all P a h (r ∷ rs) = row_and_rest P r (row_of r a) (rows_from a rs) (row_all P r a h) (rows_all P a h rs)

first_fold : (m : Monoid) (r : ℕ) (vs : List Value) (rest : VectorEntries) → IsValueOf (monoid_domain m) (fold_of m (values_of rest))
    → fold_of m (values_of (before_entries r (fold_of_some m vs) rest)) ≡ value_of_op (monoid_op m) (fold_of m vs) (fold_of m (values_of rest))
first_fold m r [] rest is = sym ((monoid_laws m).neutral (fold_of m (values_of rest)) is)
first_fold m r (v ∷ vs) rest is = refl

module _ (m : Monoid) (a : MatrixEntries) (of : AllByRecursion (λ e. IsValueOf (monoid_domain m) e.1) a) where
  rest_of : (rs : List ℕ) → AllByRecursion (IsValueOf (monoid_domain m)) (values_of (rows_from a rs))
  rest_of rs = values_all (IsValueOf (monoid_domain m)) (rows_from a rs) (rows_all (IsValueOf (monoid_domain m)) a of rs)

  fold-rows : (rs : List ℕ) → fold_of m (values_of (map_on rs (λ i. fold_of_some m (values_of (row_of i a))))) ≡ fold_of m (values_of (rows_from a rs))
  fold-rows [] = refl
  fold-rows (r ∷ rs) =
      first_fold m r (values_of (row_of r a)) (map_on rs (λ i. fold_of_some m (values_of (row_of i a)))) (subst (IsValueOf (monoid_domain m)) (sym (fold-rows rs)) (fold_of-is m (values_of (rows_from a rs)) (rest_of rs)))
      ∙ ap (value_of_op (monoid_op m) (fold_of m (values_of (row_of r a)))) (fold-rows rs)
      ∙ sym (fold_of-append m (values_of (row_of r a)) (values_of (rows_from a rs)) (values_all (IsValueOf (monoid_domain m)) (row_of r a) (row_all (IsValueOf (monoid_domain m)) r a of)) (rest_of rs))
      ∙ ap (λ (vs : List Value). fold_of m (vs ++ values_of (rows_from a rs))) (sym (values_of-with_row r (row_of r a)))
      ∙ ap (fold_of m) (sym (values_of-append (with_row r (row_of r a)) (rows_from a rs)))

pub total_of_rows : TotalOfRows
total_of_rows m a h of =
    let is = recursion_from_All (λ (e : Cell × Value). IsValueOf (monoid_domain m) e.1) a of in
    fold-rows m a is (rows_of a)
    ∙ ap (λ (b : MatrixEntries). fold_of m (values_of b))
    (rows_from-all a (holds _ h) (rows_of a) (rising (map_from nat_cmp (by_row a)) (is_sorted-map_from nat_cmp nat_cmp_total (by_row a)))
    (λ i none. row_of-none i a (sym (find-map_from nat_cmp nat_cmp_total i (by_row a)) ∙ nowhere i (map_from nat_cmp (by_row a)) none)))
