-- What a build stores, and that it is the sets of its tuples where no place stands twice.
use Rattle.std.proofs.Common.{◌≡◌, true, false, cond, T, List, [], ◌∷◌, zero, suc, refl, sym, ap, subst, ◌∙◌, arith}
use Rattle.grb_core.proofs.Prelude.{◌≢◌, map, Option, Some, None, is_some, AllPairs, option_or, AllByRecursion, IsPermutation, Ordering, Less, Equal, Greater, is_eq, eq_by_cmp, IsTotalOrder, find, put, is_sorted, IsAntisymmetric, is_sorted-put, find-put, is_some-find, recursion_from_All, Value, Monoid, IsValueOf, value_of_op, monoid_op, monoid_domain, identity_of, fold_of, fold_of_some, restricted, values_of, values_at, set_all, BuildStoresFolds, BuildIsSets, BuildsInAnyOrder}
use Rattle.std.proofs.lemmas.List.Sorted.{All-permutation, IsPermutation-map, list_any-IsPermutation}
use Rattle.grb_core.proofs.MonoidLaws.{monoid_laws}
use Rattle.grb_core.proofs.Maps.{find-map_on_indices, is_sorted-map_on_indices, same_entries_at}
use Rattle.grb_core.proofs.Edits.{ties_with_no_other}
use Rattle.grb_core.proofs.Folds.{fold_of-is, fold_of-IsPermutation}

-- a value alone is its fold
one_value : (dup : Monoid) (v : Value) (vs : List Value) → IsValueOf (monoid_domain dup) v → vs ≡ [] → fold_of_some dup (v ∷ vs) ≡ Some v
one_value dup v vs is none =
    let laws = monoid_laws dup in
    ap (λ us. fold_of_some dup (v ∷ us)) none
    ∙ ap Some (laws.commutative v (identity_of dup) is laws.identity_is ∙ laws.neutral v is)

module _ {K : Type 0} where
  -- each place is another than those after it
  abbrev ArePlacesApart : List (K × Value) → Type 0
  ArePlacesApart [] = Unit {0}
  ArePlacesApart (e ∷ es) = AllByRecursion (λ f. e.0 ≢ f.0) es × ArePlacesApart es

  places_apart : (es : List (K × Value)) → AllPairs (λ d e. d.0 ≢ e.0) es → ArePlacesApart es
  places_apart [] h = tt
  places_apart (e ∷ es) h = (
    recursion_from_All (λ f. e.0 ≢ f.0) es (λ k d lt. h zero (suc k) d (omega arith) (omega arith)),
    places_apart es (λ i j d low lt. h (suc i) (suc j) d (omega arith) (omega arith)),
  )

  module _ (R : K → K → Ordering) where
    -- the values of a list at a place, and none where the list has none
    stored : (dup : Monoid) (q : K) (es : List (K × Value)) →
        fold_of_some dup (values_at R q es) ≡ cond (is_some (find R q es)) (Some (fold_of dup (values_at R q es))) None
    stored dup q [] = refl
    stored dup q (e ∷ es) =
        let rest = restricted (λ l. eq_by_cmp R q l) es in
        elim (eq_by_cmp R q e.0) as (λ b. fold_of_some dup (values_of (cond b (e ∷ rest) rest)) ≡ cond (is_some (cond b (Some e.1) (find R q es))) (Some (fold_of dup (values_of (cond b (e ∷ rest) rest)))) None) [
          | true ↦ refl
          | false ↦ stored dup q es
        ]

    where_stored : (dup : Monoid) (q : K) (es : List (K × Value)) →
        cond (is_some (find R q es)) (fold_of_some dup (values_at R q es)) None ≡ fold_of_some dup (values_at R q es)
    where_stored dup q [] = refl
    where_stored dup q (e ∷ es) =
        let rest = restricted (λ l. eq_by_cmp R q l) es in
        elim (eq_by_cmp R q e.0) as (λ b. cond (is_some (cond b (Some e.1) (find R q es))) (fold_of_some dup (values_of (cond b (e ∷ rest) rest))) None ≡ fold_of_some dup (values_of (cond b (e ∷ rest) rest))) [
          | true ↦ refl
          | false ↦ where_stored dup q es
        ]

    -- the value that a tuple brings to a place, which is the identity where it is of another
    brought : Monoid → K → K × Value → Value
    brought dup q e = cond (eq_by_cmp R q e.0) e.1 (identity_of dup)

    brought_is : (dup : Monoid) (q : K) (es : List (K × Value)) → AllByRecursion (λ e. IsValueOf (monoid_domain dup) e.1) es →
        AllByRecursion (IsValueOf (monoid_domain dup)) (map (brought dup q) es)
    unfolding brought
    brought_is dup q [] h = tt
    brought_is dup q (e ∷ es) h = (
      elim (eq_by_cmp R q e.0) as (λ b. IsValueOf (monoid_domain dup) (cond b e.1 (identity_of dup))) [ true ↦ h.0 | false ↦ (monoid_laws dup).identity_is ],
      brought_is dup q es h.1,
    )

    fold_of-brought : (dup : Monoid) (q : K) (es : List (K × Value)) → AllByRecursion (λ e. IsValueOf (monoid_domain dup) e.1) es →
        fold_of dup (map (brought dup q) es) ≡ fold_of dup (values_at R q es)
    unfolding brought
    fold_of-brought dup q [] h = refl
    fold_of-brought dup q (e ∷ es) h =
        let rest = restricted (λ l. eq_by_cmp R q l) es in
        let others = fold_of dup (map (brought dup q) es) in
        let same_rest = fold_of-brought dup q es h.1 in
        elim (eq_by_cmp R q e.0) as (λ b. value_of_op (monoid_op dup) (cond b e.1 (identity_of dup)) others ≡ fold_of dup (values_of (cond b (e ∷ rest) rest))) [
          | true ↦ ap (value_of_op (monoid_op dup) e.1) same_rest
          | false ↦ (monoid_laws dup).neutral others (fold_of-is dup (map (brought dup q) es) (brought_is dup q es h.1)) ∙ same_rest
        ]

    module _ (o : IsTotalOrder R) (same : IsAntisymmetric R) where
      pub build_stores_folds : BuildStoresFolds R
      build_stores_folds dup es k = find-map_on_indices R o same (λ q. fold_of_some dup (values_at R q es)) k es ∙ where_stored dup k es

      no_value : (q : K) (es : List (K × Value)) → AllByRecursion (λ f. q ≢ f.0) es → values_at R q es ≡ []
      no_value q [] h = refl
      no_value q (e ∷ es) h =
          let rest = restricted (λ l. eq_by_cmp R q l) es in
          ap (λ b. values_of (cond b (e ∷ rest) rest)) (ties_with_no_other R o same q e.0 h.0) ∙ no_value q es h.1

      not_there : (q : K) (es : List (K × Value)) → AllByRecursion (λ f. q ≢ f.0) es → find R q es ≡ None
      not_there q [] h = refl
      not_there q (e ∷ es) h = ap (λ b. cond b (Some e.1) (find R q es)) (ties_with_no_other R o same q e.0 h.0) ∙ not_there q es h.1

      -- where each place stands once, the fold at a place is the value there
      one_each : (dup : Monoid) (q : K) (es : List (K × Value)) → ArePlacesApart es → AllByRecursion (λ e. IsValueOf (monoid_domain dup) e.1) es →
          fold_of_some dup (values_at R q es) ≡ find R q es
      one_each dup q [] apart is = refl
      one_each dup q (e ∷ es) apart is =
          let rest = restricted (λ l. eq_by_cmp R q l) es in
          elim (R q e.0) as (λ r. R q e.0 ≡ r → fold_of_some dup (values_of (cond (is_eq r) (e ∷ rest) rest)) ≡ cond (is_eq r) (Some e.1) (find R q es)) [
            | Less ↦ λ t. one_each dup q es apart.1 is.1
            | Equal ↦ λ t. one_value dup e.1 (values_of rest) is.0 (no_value q es (subst (λ k. AllByRecursion (λ f. k ≢ f.0) es) (sym (same q e.0 t)) apart.0))
            | Greater ↦ λ t. one_each dup q es apart.1 is.1
          ] refl

      find-set_all : (q : K) (m es : List (K × Value)) → ArePlacesApart es → find R q (set_all R m es) ≡ option_or (find R q es) (find R q m)
      find-set_all q m [] apart = refl
      find-set_all q m (e ∷ es) apart =
          find-set_all q (put R e.0 e.1 m) es apart.1
          ∙ ap (option_or (find R q es)) (find-put R o q e.0 e.1 m)
          ∙ elim (R q e.0) as (λ r. R q e.0 ≡ r → option_or (find R q es) (cond (is_eq r) (Some e.1) (find R q m)) ≡ option_or (cond (is_eq r) (Some e.1) (find R q es)) (find R q m)) [
            | Less ↦ λ t. refl
            | Equal ↦ λ t. ap (λ w. option_or w (Some e.1)) (not_there q es (subst (λ k. AllByRecursion (λ f. k ≢ f.0) es) (sym (same q e.0 t)) apart.0))
            | Greater ↦ λ t. refl
          ] refl

      is_sorted-set_all : (m es : List (K × Value)) → T (is_sorted R m) → T (is_sorted R (set_all R m es))
      is_sorted-set_all m [] h = h
      is_sorted-set_all m (e ∷ es) h = is_sorted-set_all (put R e.0 e.1 m) es (is_sorted-put R o e.0 e.1 m h)

      or_none : (w : Option Value) → option_or w None ≡ w
      or_none None = refl
      or_none (Some v) = refl

      pub build_is_sets : BuildIsSets R
      build_is_sets dup es apart is =
          let alone = places_apart es apart in
          let of = recursion_from_All _ es is in
          same_entries_at R o same _ _
          (is_sorted-map_on_indices R o (λ k. fold_of_some dup (values_at R k es)) es)
          (is_sorted-set_all [] es tt)
          (λ q. build_stores_folds dup es q ∙ one_each dup q es alone of ∙ sym (find-set_all q [] es alone ∙ or_none (find R q es)))

      is_there : (q : K) (es fs : List (K × Value)) → IsPermutation es fs → is_some (find R q es) ≡ is_some (find R q fs)
      is_there q es fs moved =
          is_some-find R q es
          ∙ list_any-IsPermutation (eq_by_cmp R q) (map (λ e. e.0) es) (map (λ e. e.0) fs) (IsPermutation-map (λ e. e.0) es fs moved)
          ∙ sym (is_some-find R q fs)

      pub builds_in_any_order : BuildsInAnyOrder R
      builds_in_any_order dup es fs is moved =
          let of_es = recursion_from_All (λ e. IsValueOf (monoid_domain dup) e.1) es is in
          let of_fs = recursion_from_All (λ e. IsValueOf (monoid_domain dup) e.1) fs (All-permutation (λ e. IsValueOf (monoid_domain dup) e.1) es fs moved is) in
          same_entries_at R o same _ _
          (is_sorted-map_on_indices R o (λ k. fold_of_some dup (values_at R k es)) es)
          (is_sorted-map_on_indices R o (λ k. fold_of_some dup (values_at R k fs)) fs)
          (λ q.
          let folds : fold_of dup (values_at R q es) ≡ fold_of dup (values_at R q fs) =
          sym (fold_of-brought dup q es of_es)
          ∙ fold_of-IsPermutation dup (map (brought dup q) es) (map (brought dup q) fs) (brought_is dup q es of_es) (IsPermutation-map (brought dup q) es fs moved)
          ∙ fold_of-brought dup q fs of_fs in
          build_stores_folds dup es q
          ∙ stored dup q es
          ∙ ap (λ b. cond b (Some (fold_of dup (values_at R q es))) None) (is_there q es fs moved)
          ∙ ap (λ v. cond (is_some (find R q fs)) (Some v) None) folds
          ∙ sym (build_stores_folds dup fs q ∙ stored dup q fs))
