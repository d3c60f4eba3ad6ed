use Rattle.std.proofs.Common.{◌+◌, arith}
use Rattle.grb_folds.proofs.Spans.{span_of, two_spans, join_spans}
use Rattle.grb_folds.proofs.folding.fold_few.Goals as goal

pub sixteens-preserved : goal.sixteens-preserved
sixteens-preserved g c =
    let tv = g.T.Scalar.value in
    let m = g.M.MonoidOver.monoid in
    let vs = c.args.values.now in
    let at = c.sixteens.at in
    let next = two_spans m tv vs g.met.M.MonoidOver.same_domain c.show.ensures at 8 (at + 16) (tv c.fold_8.result) (tv c.fold_8-in-sixteens.result) (tv c.add-next.result)
    (omega arith) c.fold_8.ensures c.fold_8-in-sixteens.ensures c.add-next.ensures in
    record {
      after = omega (arith, c.sixteens.invariant.after);
      before = omega (arith, c.sixteens.invariant.before, c.sixteens-test.true);
      so_far = join_spans m tv vs c.args.start at (at + 16) (tv c.sixteens.sum) (tv c.add-next.result) (tv c.add-sum.result) c.sixteens.invariant.after (omega arith) c.sixteens.invariant.so_far next c.add-sum.ensures;
    }

pub returns : goal.returns
returns g c =
    let tv = g.T.Scalar.value in
    let m = g.M.MonoidOver.monoid in
    let vs = c.args.values.now in
    let at = c.sixteens.at in
    (join_spans m tv vs c.args.start at c.args.end (tv c.sixteens.sum) (tv c.fold_below_16.result) (tv c.add.result) c.sixteens.invariant.after c.sixteens.invariant.before c.sixteens.invariant.so_far
    (span_of m tv vs g.met.M.MonoidOver.same_domain c.show.ensures at c.args.end (tv c.fold_below_16.result) c.fold_below_16.ensures) c.add.ensures).is_sum
