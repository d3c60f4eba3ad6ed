use Rattle.std.proofs.Common.{◌≡◌, ◌+◌, ◌<◌, arith, length, ap, sym, subst, ◌∙◌, drop, take}
use Rattle.std.specs.Prelude.{map}
use Rattle.grb_core.specs.Value.{IsValueOf}
use Rattle.grb_core.specs.Fold.{fold_of}
use Rattle.grb_folds.proofs.Spans.{IsSpan, no_span, one_span, join_spans}
use Rattle.grb_folds.proofs.folding.fold_each.Goals as goal

pub values-init : goal.values-init
values-init g c =
    let tv = g.T.Scalar.value in
    let m = g.M.MonoidOver.monoid in
    record {
      after = omega arith;
      before = c.requires.order;
      so_far = subst (IsSpan m tv c.args.values.now c.args.start c.args.start) (sym c.identity-sum.ensures) (no_span m tv c.args.values.now c.args.start);
    }

pub values-preserved : goal.values-preserved
values-preserved g c =
    let tv = g.T.Scalar.value in
    let m = g.M.MonoidOver.monoid in
    let vs = c.args.values.now in
    let at = c.values.at in
    let inside : at < length vs = (let w = c.requires.within in omega (arith, w, c.values-test.true)) in
    record {
      after = omega (arith, c.values.invariant.after);
      before = omega (arith, c.values-test.true);
      so_far = join_spans m tv vs c.args.start at (at + 1) (tv c.values.sum) (tv c.read-value.result) (tv c.add-sum.result) c.values.invariant.after (omega arith) c.values.invariant.so_far
          (one_span m tv vs at c.index-values-at.result (tv c.read-value.result) inside c.index-values-at.is
          (subst (λ d. IsValueOf d (tv c.index-values-at.result)) (sym g.met.M.MonoidOver.same_domain) c.read-value.ensures.of_domain) (ap tv c.read-value.ensures.same)) c.add-sum.ensures;
    }

pub returns : goal.returns
returns g c =
    let tv = g.T.Scalar.value in
    let done : c.values.at ≡ c.args.end = omega (arith, c.values.invariant.before, c.values-test.false) in
    c.values.invariant.so_far.is_sum ∙ ap (λ e. fold_of g.M.MonoidOver.monoid (map tv (drop c.args.start (take e c.args.values.now)))) done
