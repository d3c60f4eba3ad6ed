use Rattle.std.proofs.Common.{◌+◌, sym, subst, arith}
use Rattle.std.specs.Prelude.{map}
use Rattle.std.specs.List.{AllByRecursion}
use Rattle.grb_core.specs.Value.{IsValueOf}
use Rattle.grb_core.specs.Monoid.{monoid_domain}
use Rattle.grb_folds.proofs.Windows.{IsUnderWay, all_mapped, under_way-first, under_way-next, under_way-last, under_way-ends}
use Rattle.grb_folds.proofs.changed.fold_windows.Goals as goal

pub loop-start-init : goal.loop-start-init
loop-start-init g c =
    let tv = g.T.Scalar.value in
    let m = g.M.MonoidOver.monoid in
    let vs = c.args.values.now in
    let all : AllByRecursion (IsValueOf (monoid_domain m)) (map tv vs) =
    subst (λ d. AllByRecursion (IsValueOf d) (map tv vs)) (sym g.met.M.MonoidOver.same_domain) (all_mapped (IsValueOf g.T.Scalar.domain) tv vs c.read_all.ensures) in
    subst (IsUnderWay m tv vs c.args.places.now 0) (sym c.identity-sum.ensures) (under_way-first m tv vs c.args.places.now all)

pub returns-then-is_final-clause-folded : goal.returns-then-is_final-clause-folded
returns-then-is_final-clause-folded g c =
    let tv = g.T.Scalar.value in
    let m = g.M.MonoidOver.monoid in
    let vs = c.args.values.now in
    let start = c.loop-start.start in
    let end = start + c.min.result in
    let next : IsUnderWay m tv vs c.args.places.now end (tv c.add-sum.result) =
    under_way-next m tv vs c.args.places.now start end (tv c.loop-start.sum) (tv c.fold_window-part.result) (tv c.add-sum.result) c.loop-start.invariant (omega arith) (omega (arith, c.min.ensures, c.loop-start-test.true))
    c.fold_window-part.ensures c.add-sum.ensures in
    under_way-ends m tv vs c.args.places.now end (tv c.add-sum.result) next (c.is_final.ensures c.if-is_final.true)

pub returns-then-is_final-clause-of_domain : goal.returns-then-is_final-clause-of_domain
returns-then-is_final-clause-of_domain g c = all_mapped (IsValueOf g.T.Scalar.domain) g.T.Scalar.value c.args.values.now c.read_all.ensures

pub loop-start-preserved : goal.loop-start-preserved
loop-start-preserved g c =
    let tv = g.T.Scalar.value in
    let m = g.M.MonoidOver.monoid in
    let vs = c.args.values.now in
    let start = c.loop-start.start in
    under_way-next m tv vs c.args.places.now start (start + c.min.result) (tv c.loop-start.sum) (tv c.fold_window-part.result) (tv c.add-sum.result) c.loop-start.invariant (omega arith) (omega (arith, c.min.ensures, c.loop-start-test.true))
    c.fold_window-part.ensures c.add-sum.ensures

pub returns-clause-folded : goal.returns-clause-folded
returns-clause-folded g c =
    under_way-last g.M.MonoidOver.monoid g.T.Scalar.value c.args.values.now c.args.places.now c.loop-start.start (g.T.Scalar.value c.loop-start.sum) c.loop-start.invariant c.loop-start-test.false

pub returns-clause-of_domain : goal.returns-clause-of_domain
returns-clause-of_domain g c = all_mapped (IsValueOf g.T.Scalar.domain) g.T.Scalar.value c.args.values.now c.read_all.ensures
