use Rattle.std.proofs.Common.{◌≡◌, ap, sym, subst, ◌∙◌}
use Rattle.std.specs.Prelude.{Some}
use Rattle.std.specs.List.{AllByRecursion}
use Rattle.std.specs.Map.Iter.{deref_pair}
use Rattle.grb_core.specs.Value.{IsValueOf}
use Rattle.grb_core.specs.Operator.{value_of_op}
use Rattle.grb_core.specs.Monoid.{monoid_op, monoid_domain}
use Rattle.grb_core.specs.Fold.{fold_of}
use Rattle.grb_folds.specs.Changed.{values_left}
use Rattle.grb_folds.proofs.ChangedTotals.{through_next, through_all, left_some, left_none}
use Rattle.grb_folds.proofs.changed.fold_left.Goals as goal

pub changes-init : goal.changes-init
changes-init g c = (c.into_iter-change-iterator.ensures.into_iter_gives.0, record { is_sum = c.identity-sum.ensures; of_domain = tt })

pub changes-preserved-in-Some-change : goal.changes-preserved-in-Some-change
changes-preserved-in-Some-change g c =
    let tv = g.T.Scalar.value in
    let m = g.M.MonoidOver.monoid in
    let ys = c.changes.yielded in
    let v = tv c.of_value.result in
    let sum = tv c.changes.sum in
    let is : IsValueOf (monoid_domain m) v = subst (λ d. IsValueOf d v) (sym g.met.M.MonoidOver.same_domain) c.read-read.ensures.of_domain in
    let added : tv c.add-sum.result ≡ value_of_op (monoid_op m) sum v = ◌∙◌ {b = value_of_op (monoid_op m) sum (tv c.read-read.result)} c.add-sum.ensures (ap (λ x. value_of_op (monoid_op m) sum (tv x)) c.read-read.ensures.same) in (
      through_next deref_pair ys (c.in-Some.field-0-0, c.in-Some.change) c.changes.change-iterator c.next.new.self c.args.changes.now.entries c.changes.invariant.0 c.in-Some.ensures.steps,
      left_some deref_pair ys m (c.in-Some.field-0-0, c.in-Some.change) v sum (tv c.add-sum.result) (c.in-Some-change.is ∙ ap Some (sym c.of_value.ensures)) c.changes.invariant.1 is added,
    )

pub changes-preserved : goal.changes-preserved
changes-preserved g c =
    let ys = c.changes.yielded in (
      through_next deref_pair ys (c.in-Some.field-0-0, c.in-Some.change) c.changes.change-iterator c.next.new.self c.args.changes.now.entries c.changes.invariant.0 c.in-Some.ensures.steps,
      left_none deref_pair ys g.M.MonoidOver.monoid (c.in-Some.field-0-0, c.in-Some.change) (g.T.Scalar.value c.changes.sum) c.in_default.is c.changes.invariant.1,
    )

pub returns-clause-folded : goal.returns-clause-folded
returns-clause-folded g c =
    let m = g.M.MonoidOver.monoid in
    let all = through_all deref_pair c.changes.yielded c.changes.change-iterator c.args.changes.now.entries c.changes.invariant.0 c.in-None.ensures.steps.0 in
    c.changes.invariant.1.is_sum ∙ ap (λ cs. fold_of m (values_left cs)) all

pub returns-clause-of_domain : goal.returns-clause-of_domain
returns-clause-of_domain g c =
    let m = g.M.MonoidOver.monoid in
    let all = through_all deref_pair c.changes.yielded c.changes.change-iterator c.args.changes.now.entries c.changes.invariant.0 c.in-None.ensures.steps.0 in
    subst (λ d. AllByRecursion (IsValueOf d) (values_left c.args.changes.now.entries)) g.met.M.MonoidOver.same_domain
    (subst (λ cs. AllByRecursion (IsValueOf (monoid_domain m)) (values_left cs)) all c.changes.invariant.1.of_domain)
