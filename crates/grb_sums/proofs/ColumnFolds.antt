-- The folds of columns that have names are the build of what was added, where each column to which something was added has one.
use Rattle.std.proofs.Common.{◌≡◌, ℕ, ◌<◌, true, false, cond, List, [], ◌∷◌, length, refl, sym, ap, subst, ◌∙◌, arith, lit<}
use Rattle.std.specs.Prelude.{◌≢◌, Option, Some, None, is_some, map, slice_index}
use Rattle.std.specs.List.{AllByRecursion, Contains}
use Rattle.std.specs.Ordering.{nat_cmp, eq_by_cmp}
use Rattle.std.specs.Cmp.{nat_cmp_total}
use Rattle.std.specs.FinMap.{find, nat_cmp-IsAntisymmetric}
use Rattle.std.proofs.lemmas.Bool.Decides.{nat_tests}
use Rattle.std.proofs.lemmas.List.{get_or_default}
use Rattle.std.proofs.lemmas.List.Elements.{Contains-append_left, Contains-append_right, Contains-get_or}
use Rattle.grb_core.specs.declared.value.Value.{Value}
use Rattle.grb_core.specs.declared.monoid.Monoid.{Monoid}
use Rattle.grb_core.specs.Fold.{fold_of_some}
use Rattle.grb_core.specs.Entries.{VectorEntries, built_from, restricted, values_at, values_of}
use Rattle.grb_core.proofs.Maps.{find-map_on_indices, is_sorted-map_on_indices, same_entries_at}
use Rattle.grb_ewise.specs.Ranks.{Rise}
use Rattle.grb_sums.specs.ColumnSums.{column_folds, numbers_below}
use Rattle.grb_sums.specs.Numbers.{numbers_below-at, numbers_below-length, numbers_below-rise}
use Rattle.grb_sums.proofs.RowByRow.{find-map_rising, is_sorted-map_rising}

-- nothing came to a column that is not among those added
pub values_at-none : (q : ℕ) (added : VectorEntries) → find nat_cmp q added ≡ None → values_at nat_cmp q added ≡ []
values_at-none q [] h = refl
values_at-none q (e ∷ es) h =
    elim (eq_by_cmp nat_cmp q e.0) as (λ b. cond b (Some e.1) (find nat_cmp q es) ≡ None → values_of (cond b (e ∷ restricted (λ l. eq_by_cmp nat_cmp q l) es) (restricted (λ l. eq_by_cmp nat_cmp q l) es)) ≡ []) [
      | true ↦ λ (n : Some e.1 ≡ None). cc
      | false ↦ λ n. values_at-none q es n
    ] h

pub find-built : (m : Monoid) (added : VectorEntries) (q : ℕ) → find nat_cmp q (built_from nat_cmp m added) ≡ fold_of_some m (values_at nat_cmp q added)
find-built m added q =
    find-map_on_indices nat_cmp nat_cmp_total nat_cmp-IsAntisymmetric (λ j. fold_of_some m (values_at nat_cmp j added)) q added
    ∙ elim (find nat_cmp q added) as (λ w. find nat_cmp q added ≡ w → cond (is_some w) (fold_of_some m (values_at nat_cmp q added)) None ≡ fold_of_some m (values_at nat_cmp q added)) [
      | None ↦ λ t. sym (ap (fold_of_some m) (values_at-none q added t))
      | Some v ↦ λ t. refl
    ] refl

-- every column of these entries has a name
abbrev pub AreNamed : List ℕ → VectorEntries → Type 0
AreNamed names added = AllByRecursion (λ e. Contains names e.0) added

pub are_named : (names : List ℕ) (added : VectorEntries) → ((j : ℕ) → Contains (map (λ e. e.0) added) j → Contains names j) → AreNamed names added
are_named names [] h = tt
are_named names (e ∷ es) h =
    let columns : List ℕ = map (λ e. e.0) es in
    (h e.0 (Contains-append_left (e.0 ∷ []) columns e.0 (0, lit< tt, refl)), are_named names es (λ j is. h j (Contains-append_right (e.0 ∷ []) columns j is)))

-- an entry at another column
pub other_column : (q k : ℕ) → (k ≡ q → ⊥) → eq_by_cmp nat_cmp q k ≡ false
other_column q k h = grind (arith, nat_tests)

-- what has no name was not added
values_at-unnamed : (names : List ℕ) (q : ℕ) → ((p : ℕ) → p < length names → slice_index names p ≢ q) → (added : VectorEntries) → AreNamed names added → values_at nat_cmp q added ≡ []
values_at-unnamed names q apart [] h = refl
values_at-unnamed names q apart (e ∷ es) h =
    let named = h.0 in
    let other : e.0 ≡ q → ⊥ = λ same. apart named.0 named.1 (get_or_default names named.0 0 e.0 named.1 ∙ named.2 ∙ same) in
    ap (λ b. values_of (cond b (e ∷ restricted (λ l. eq_by_cmp nat_cmp q l) es) (restricted (λ l. eq_by_cmp nat_cmp q l) es))) (other_column q e.0 other)
    ∙ values_at-unnamed names q apart es h.1

pub column_folds-named : (m : Monoid) (names : List ℕ) (added : VectorEntries) → Rise names → AreNamed names added → column_folds m names added ≡ built_from nat_cmp m added
column_folds-named m names added rise named =
    same_entries_at nat_cmp nat_cmp_total nat_cmp-IsAntisymmetric _ _ (is_sorted-map_rising folds names rise) (is_sorted-map_on_indices nat_cmp nat_cmp_total folds added)
    (λ q. find-map_rising folds q names rise (λ apart. ap (fold_of_some m) (values_at-unnamed names q apart added named)) ∙ sym (find-built m added q))
  where
    folds : ℕ → Option Value
    folds j = fold_of_some m (values_at nat_cmp j added)

-- numbers below another are among all of these
named_below : (n : ℕ) (added : VectorEntries) → AllByRecursion (λ e. e.0 < n) added → AreNamed (numbers_below n) added
named_below n [] h = tt
named_below n (e ∷ es) h =
    let long = numbers_below-length n in
    let below = h.0 in
    let here : e.0 < length (numbers_below n) = omega (arith, long, below) in
    (subst (Contains (numbers_below n)) (numbers_below-at n e.0 h.0) (Contains-get_or (numbers_below n) e.0 0 here), named_below n es h.1)

pub column_folds-all : (m : Monoid) (n : ℕ) (added : VectorEntries) → AllByRecursion (λ e. e.0 < n) added → column_folds m (numbers_below n) added ≡ built_from nat_cmp m added
column_folds-all m n added h = column_folds-named m (numbers_below n) added (numbers_below-rise n) (named_below n added h)
