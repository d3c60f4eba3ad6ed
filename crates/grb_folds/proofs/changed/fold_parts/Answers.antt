use Rattle.std.proofs.Common.{sym, subst, ◌∙◌}
use Rattle.std.specs.Prelude.{map}
use Rattle.std.specs.List.{AllByRecursion}
use Rattle.grb_core.specs.Value.{IsValueOf}
use Rattle.grb_core.specs.Monoid.{monoid_domain}
use Rattle.grb_rows.specs.Layers.{is_listed}
use Rattle.grb_folds.specs.Changed.{values_left}
use Rattle.grb_folds.proofs.ChangedTotals.{total_changed}
use Rattle.grb_folds.proofs.Windows.{all-remaining}
use Rattle.grb_folds.proofs.changed.fold_parts.Goals as goal

pub returns : goal.returns
returns g c entries same is =
    let tv = g.T.Scalar.value in
    let m = g.M.MonoidOver.monoid in
    let vs = map tv c.args.values.now in
    let places = c.args.places.now in
    let cs = c.args.changes.now.entries in
    let kept = c.fold_unlisted-kept in
    let left = c.fold_left-left in
    let of : AllByRecursion (IsValueOf (monoid_domain m)) vs = subst (λ d. AllByRecursion (IsValueOf d) vs) (sym g.met.M.MonoidOver.same_domain) kept.ensures.of_domain in
    let of_left : AllByRecursion (IsValueOf (monoid_domain m)) (values_left cs) = subst (λ d. AllByRecursion (IsValueOf d) (values_left cs)) (sym g.met.M.MonoidOver.same_domain) left.ensures.of_domain in
    c.add.ensures
    ∙ total_changed m entries places cs vs (tv kept.result) (tv left.result) is same
    (record { is_sum = kept.ensures.folded; of_domain = all-remaining (IsValueOf (monoid_domain m)) (is_listed places) vs of })
    (record { is_sum = left.ensures.folded; of_domain = of_left })
