-- A build of entries in rising order stores just these.
use Rattle.std.proofs.Common.{◌≡◌, Bool, true, false, cond, T, ◌&&◌, List, [], ◌∷◌, refl, sym, ap, subst, ◌∙◌}
use Rattle.std.specs.Prelude.{Some}
use Rattle.std.specs.List.{AllByRecursion}
use Rattle.std.specs.declared.cmp.Ordering.{Ordering}
use Rattle.std.specs.declared.cmp.Ordering.TheVariants.{Less, Equal, Greater}
use Rattle.std.specs.Ordering.{is_eq, is_lt, eq_by_cmp}
use Rattle.std.specs.Cmp.{IsTotalOrder}
use Rattle.std.specs.FinMap.{find, is_sorted, IsAntisymmetric}
use Rattle.std.specs.FinMap.Entries.{below_all}
use Rattle.grb_core.specs.declared.value.Value.{Value}
use Rattle.grb_core.specs.declared.monoid.Monoid.{Monoid}
use Rattle.grb_core.specs.Value.{IsValueOf}
use Rattle.grb_core.specs.Monoid.{monoid_domain, identity_of}
use Rattle.grb_core.specs.Fold.{fold_of_some}
use Rattle.grb_core.specs.Entries.{restricted, values_of, values_at, built_from}
use Rattle.grb_core.proofs.MonoidLaws.{monoid_laws}
use Rattle.grb_core.proofs.Maps.{is_sorted-map_on_indices, same_entries_at}
use Rattle.grb_core.proofs.Builds.{build_stores_folds}

first : (a b : Bool) → T (a && b) → T a
first true b p = tt
first false b p = p

second : (a b : Bool) → T (a && b) → T b
second true b p = p
second false b p = absurd p

is_less : (r : Ordering) → T (is_lt r) → r ≡ Less
is_less Less p = refl
is_less Equal p = absurd p
is_less Greater p = absurd p

-- a value alone is its fold
one_value : (dup : Monoid) (v : Value) (vs : List Value) → IsValueOf (monoid_domain dup) v → vs ≡ [] → fold_of_some dup (v ∷ vs) ≡ Some v
one_value dup v vs is none =
    let laws = monoid_laws dup in
    ap (λ us. fold_of_some dup (v ∷ us)) none
    ∙ ap Some (laws.commutative v (identity_of dup) is laws.identity_is ∙ laws.neutral v is)

module _ {K : Type 0} (R : K → K → Ordering) (o : IsTotalOrder R) (same : IsAntisymmetric R) where
  -- no value stands at a place that is below all others
  none_below : (q : K) (es : List (K × Value)) → T (below_all R q es) → values_at R q es ≡ []
  none_below q [] h = refl
  none_below q (e ∷ es) h =
      let rest = restricted (λ l. eq_by_cmp R q l) es in
      ap (λ r. values_of (cond (is_eq r) (e ∷ rest) rest)) (is_less (R q e.0) (first _ _ h)) ∙ none_below q es (second _ _ h)

  one_each : (dup : Monoid) (q : K) (es : List (K × Value)) → T (is_sorted R es) → AllByRecursion (λ e. IsValueOf (monoid_domain dup) e.1) es →
      fold_of_some dup (values_at R q es) ≡ find R q es
  one_each dup q [] sorted is = refl
  one_each dup q (e ∷ es) sorted is =
      let rest = restricted (λ l. eq_by_cmp R q l) es in
      let later = one_each dup q es (second _ _ sorted) is.1 in
      elim (R q e.0) as (λ r. R q e.0 ≡ r → fold_of_some dup (values_of (cond (is_eq r) (e ∷ rest) rest)) ≡ cond (is_eq r) (Some e.1) (find R q es)) [
        | Less ↦ λ t. later
        | Equal ↦ λ t. one_value dup e.1 (values_of rest) is.0 (none_below q es (subst (λ k. T (below_all R k es)) (sym (same q e.0 t)) (first _ _ sorted)))
        | Greater ↦ λ t. later
      ] refl

  pub built_from-sorted : (dup : Monoid) (es : List (K × Value)) → T (is_sorted R es) → AllByRecursion (λ e. IsValueOf (monoid_domain dup) e.1) es → built_from R dup es ≡ es
  built_from-sorted dup es sorted is =
      same_entries_at R o same (built_from R dup es) es
      (is_sorted-map_on_indices R o (λ k. fold_of_some dup (values_at R k es)) es)
      sorted
      (λ q. build_stores_folds R o same dup es q ∙ one_each dup q es sorted is)
