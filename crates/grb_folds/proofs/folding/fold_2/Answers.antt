use Rattle.std.proofs.Common.{◌≡◌, ◌+◌, arith, ap, sym, subst, drop, take}
use Rattle.std.specs.Prelude.{map}
use Rattle.grb_core.specs.Value.{IsValueOf}
use Rattle.grb_semirings.proofs.Folds.{IsFolding}
use Rattle.grb_folds.proofs.Spans.{one_span, join_spans}
use Rattle.grb_folds.proofs.folding.fold_2.Goals as goal

pub returns : goal.returns
returns g c =
    let tv = g.T.Scalar.value in
    let m = g.M.MonoidOver.monoid in
    let vs = c.args.values.now in
    let at = c.args.at in
    let d = sym g.met.M.MonoidOver.same_domain in
    let two : (at + 1) + 1 ≡ at + 2 = omega arith in
    let first = one_span m tv vs at c.index-values-at.result (tv c.read.result) (let r = c.requires in omega (arith, r)) c.index-values-at.is
    (subst (λ d. IsValueOf d (tv c.index-values-at.result)) d c.read.ensures.of_domain) (ap tv c.read.ensures.same) in
    let second = one_span m tv vs (at + 1) c.index-values-at-2.result (tv c.read-2.result) (let r = c.requires in omega (arith, r)) c.index-values-at-2.is
    (subst (λ d. IsValueOf d (tv c.index-values-at-2.result)) d c.read-2.ensures.of_domain) (ap tv c.read-2.ensures.same) in
    (join_spans m tv vs at (at + 1) (at + 2) (tv c.read.result) (tv c.read-2.result) (tv c.add.result) (omega arith) (omega arith) first
    (subst (λ e. IsFolding m (map tv (drop (at + 1) (take e vs))) (tv c.read-2.result)) two second) c.add.ensures).is_sum
