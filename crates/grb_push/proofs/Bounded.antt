-- A result of which only what some places have is computed: what lies elsewhere is not written.
use Rattle.std.proofs.Common.{◌≡◌, ℕ, zero, suc, Bool, true, false, cond, List, [], ◌∷◌, refl, sym, ap, subst, ◌∙◌, arith, inl, inr}
use Rattle.std.specs.Prelude.{◌&&◌, map, Option, Some, None, is_some, IfSome}
use Rattle.std.specs.List.{AllByRecursion}
use Rattle.std.specs.declared.cmp.Ordering.TheVariants.{Less, Equal, Greater}
use Rattle.std.specs.Ordering.{nat_cmp, is_eq, eq_by_cmp}
use Rattle.std.specs.Cmp.{nat_cmp_total}
use Rattle.std.specs.FinMap.{find, is_sorted, nat_cmp-IsAntisymmetric}
use Rattle.std.specs.FinMap.Entries.{below_all}
use lib.Dec.{T}
use Rattle.grb_core.specs.declared.value.Value.{Value}
use Rattle.grb_core.specs.declared.operator.BinaryOp.{BinaryOp}
use Rattle.grb_core.specs.declared.monoid.Monoid.{Monoid}
use Rattle.grb_core.specs.Fold.{fold_of_some}
use Rattle.grb_core.specs.Entries.{VectorEntries, built_from, map_on, restricted, values_at}
use Rattle.grb_core.specs.Mask.{selects, is_inside}
use Rattle.grb_core.specs.Written.{written_value, accumulated, written}
use Rattle.grb_core.proofs.Edits.{find-restricted}
use Rattle.grb_core.proofs.Maps.{find-before, is_sorted-map_on_indices, same_entries_at}
use Rattle.grb_core.proofs.Written.{find-masked, is_sorted-masked, find-accumulated, accumulated_value}
use Rattle.grb_ewise.specs.Ranks.{Rise}
use Rattle.grb_sums.specs.ColumnSums.{column_folds}
use Rattle.grb_push.specs.Wanted.{is_among, IsMade}
use Rattle.grb_sums.proofs.ColumnFolds.{find-built}
use Rattle.grb_sums.proofs.RowByRow.{below-map_on, is_sorted-map_rising, rise_rest}

and : (a b : Bool) → T a → T b → T (a && b)
and true b p q = q
and false b p q = absurd p

fst : (a b : Bool) → T (a && b) → T a
fst true b p = tt
fst false b p = absurd p

snd : (a b : Bool) → T (a && b) → T b
snd true b p = p
snd false b p = absurd p

below-restricted : (t : ℕ → Bool) (x : ℕ) (m : VectorEntries) → T (below_all nat_cmp x m) → T (below_all nat_cmp x (restricted t m))
below-restricted t x [] h = tt
below-restricted t x (e ∷ m) h =
    elim (t e.0) as (λ b. T (below_all nat_cmp x (cond b (e ∷ restricted t m) (restricted t m)))) [
      | true ↦ and _ _ (fst _ _ h) (below-restricted t x m (snd _ _ h))
      | false ↦ below-restricted t x m (snd _ _ h)
    ]

pub is_sorted-restricted : (t : ℕ → Bool) (m : VectorEntries) → T (is_sorted nat_cmp m) → T (is_sorted nat_cmp (restricted t m))
is_sorted-restricted t [] h = tt
is_sorted-restricted t (e ∷ m) h =
    elim (t e.0) as (λ b. T (is_sorted nat_cmp (cond b (e ∷ restricted t m) (restricted t m)))) [
      | true ↦ and _ _ (below-restricted t e.0 m (fst _ _ h)) (is_sorted-restricted t m (snd _ _ h))
      | false ↦ is_sorted-restricted t m (snd _ _ h)
    ]

pub all-restricted : (P : ℕ × Value → Type 0) (t : ℕ → Bool) (m : VectorEntries) → AllByRecursion P m → AllByRecursion P (restricted t m)
all-restricted P t [] h = tt
all-restricted P t (e ∷ m) h =
    let rest = all-restricted P t m h.1 in
    elim (t e.0) as (λ b. AllByRecursion P (cond b (e ∷ restricted t m) (restricted t m))) [ true ↦ (h.0, rest) | false ↦ rest ]

-- what is made at places that rise stands at these alone
find-map_among : (g : ℕ → Option Value) (q : ℕ) (ks : List ℕ) → Rise ks → find nat_cmp q (map_on ks g) ≡ cond (is_among q ks) (g q) None
find-map_among g q [] h = refl
find-map_among g q (k ∷ ks) h =
    let rest = find-map_among g q ks (rise_rest k ks h) in
    find-before nat_cmp nat_cmp_total k q (g k) (map_on ks g) (below-map_on k g ks (λ j l. h zero (suc j) (omega arith) (omega arith)))
    ∙ elim (nat_cmp q k) as (λ r. nat_cmp q k ≡ r → cond (is_eq r) (g k) (find nat_cmp q (map_on ks g)) ≡ cond (cond (is_eq r) true (is_among q ks)) (g q) None) [
      | Less ↦ λ t. rest
      | Equal ↦ λ t. ap g (sym (nat_cmp-IsAntisymmetric q k t))
      | Greater ↦ λ t. rest
    ] refl

pub column_folds-bounded : (m : Monoid) (names : List ℕ) (added : VectorEntries) → Rise names → column_folds m names added ≡ restricted (λ j. is_among j names) (built_from nat_cmp m added)
column_folds-bounded m names added rise =
    same_entries_at nat_cmp nat_cmp_total nat_cmp-IsAntisymmetric _ _ (is_sorted-map_rising folds names rise)
    (is_sorted-restricted (λ j. is_among j names) (built_from nat_cmp m added) (is_sorted-map_on_indices nat_cmp nat_cmp_total folds added))
    (λ q. find-map_among folds q names rise
    ∙ ap (λ w. cond (is_among q names) w None) (sym (find-built m added q))
    ∙ sym (find-restricted nat_cmp nat_cmp_total nat_cmp-IsAntisymmetric (λ j. is_among j names) q (built_from nat_cmp m added)))
  where
    folds : ℕ → Option Value
    folds j = fold_of_some m (values_at nat_cmp j added)

-- of an equal result
pub made-same : (whole : Bool) (wanted : ℕ → Bool) (total other made : VectorEntries) → total ≡ other → IsMade whole wanted total made → IsMade whole wanted other made
made-same whole wanted total other made e h = subst (λ (m : VectorEntries). IsMade whole wanted m made) e h

-- the indices of a mask are those at which it selects
pub among_places : (q : ℕ) (m : VectorEntries) → is_some (find nat_cmp q m) ≡ is_among q (map (λ e. e.0) m)
among_places q [] = refl
among_places q (e ∷ m) =
    elim (eq_by_cmp nat_cmp q e.0) as (λ b. is_some (cond b (Some e.1) (find nat_cmp q m)) ≡ cond b true (is_among q (map (λ x. x.0) m))) [ true ↦ refl | false ↦ among_places q m ]

selected_there : (structure : Bool) (w : Option Value) → selects structure w ≡ true → is_some w ≡ true
selected_there structure None e = cc
selected_there structure (Some v) e = refl

pub inside_among : (structure : Bool) (m : VectorEntries) (places : List ℕ) → places ≡ map (λ e. e.0) m → (q : ℕ) → is_inside nat_cmp structure false (Some m) q ≡ true → is_among q places ≡ true
inside_among structure m places same q e =
    ap (is_among q) same ∙ sym (among_places q m) ∙ selected_there structure (find nat_cmp q m) e

same_value : (i r : Bool) (accum : Option BinaryOp) (c t u : Option Value) → (i ≡ true → t ≡ u) → written_value i r c (accumulated_value accum c t) ≡ written_value i r c (accumulated_value accum c u)
same_value true r accum c t u h = ap (λ w. written_value true r c (accumulated_value accum c w)) (h refl)
same_value false r accum c t u h = refl

module _ (inside : ℕ → Bool) (replace : Bool) (accum : Option BinaryOp) (c t : VectorEntries) where
  -- what is computed outside of the mask changes nothing
  pub written-restricted : (test : ℕ → Bool) → ((q : ℕ) → inside q ≡ true → test q ≡ true) → written nat_cmp inside replace accum c (restricted test t) ≡ written nat_cmp inside replace accum c t
  written-restricted test h =
      same_entries_at nat_cmp nat_cmp_total nat_cmp-IsAntisymmetric _ _ (is_sorted-masked nat_cmp_total nat_cmp-IsAntisymmetric inside replace c (accumulated nat_cmp accum c (restricted test t)))
      (is_sorted-masked nat_cmp_total nat_cmp-IsAntisymmetric inside replace c (accumulated nat_cmp accum c t))
      (λ q.
      at q (restricted test t)
      ∙ same_value (inside q) replace accum (find nat_cmp q c) (find nat_cmp q (restricted test t)) (find nat_cmp q t)
      (λ e. find-restricted nat_cmp nat_cmp_total nat_cmp-IsAntisymmetric test q t ∙ ap (λ b. cond b (find nat_cmp q t) None) (h q e))
      ∙ sym (at q t))
    where
      at : (q : ℕ) (u : VectorEntries) → find nat_cmp q (written nat_cmp inside replace accum c u) ≡ written_value (inside q) replace (find nat_cmp q c) (accumulated_value accum (find nat_cmp q c) (find nat_cmp q u))
      at q u =
          find-masked nat_cmp_total nat_cmp-IsAntisymmetric inside replace q c (accumulated nat_cmp accum c u)
          ∙ ap (λ w. written_value (inside q) replace (find nat_cmp q c) w) (find-accumulated nat_cmp_total nat_cmp-IsAntisymmetric accum q c u)
