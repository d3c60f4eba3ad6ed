use Rattle.std.proofs.Common.{◌+◌, arith}
use Rattle.grb_pull.proofs.RowSums.{row_sum-none, row_sum-join}
use Rattle.grb_pull.proofs.row_sums.row_sum.Goals as goal

pub fours-init : goal.fours-init
fours-init g c =
    let tv = g.T.Scalar.value in
    record {
      after = omega arith;
      before = c.requires.order;
      so_far = row_sum-none g.M.MonoidOver.monoid tv (g.R.SumRule.adds c.args.rule.now) c.args.columns.now c.args.values.now c.requires.same c.args.start (tv c.identity-sum.result) c.identity-sum.ensures;
    }

pub fours-preserved : goal.fours-preserved
fours-preserved g c =
    let tv = g.T.Scalar.value in
    let at = c.fours.at in
    record {
      after = omega (arith, c.fours.invariant.after);
      before = omega (arith, c.fours-test.true, c.fours.invariant.before);
      so_far = row_sum-join g.M.MonoidOver.monoid tv (g.R.SumRule.adds c.args.rule.now) c.args.columns.now c.args.values.now c.requires.same c.args.start at (at + 4)
          (tv c.fours.sum) (tv c.sum_4-next.result) (tv c.add-sum.result) c.fours.invariant.after (omega arith)
          (let w = c.requires.within in omega (arith, w, c.fours-test.true, c.fours.invariant.before)) c.fours.invariant.so_far c.sum_4-next.ensures c.add-sum.ensures;
    }

pub returns : goal.returns
returns g c =
    let tv = g.T.Scalar.value in
    row_sum-join g.M.MonoidOver.monoid tv (g.R.SumRule.adds c.args.rule.now) c.args.columns.now c.args.values.now c.requires.same c.args.start c.fours.at c.args.end
    (tv c.fours.sum) (tv c.sum_each-rest.result) (tv c.add.result) c.fours.invariant.after c.fours.invariant.before c.requires.within c.fours.invariant.so_far c.sum_each-rest.ensures c.add.ensures
