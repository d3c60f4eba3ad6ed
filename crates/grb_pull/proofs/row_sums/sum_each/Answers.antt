use Rattle.std.proofs.Common.{◌≡◌, ◌+◌, ◌<◌, length, arith, subst}
use Rattle.grb_pull.specs.RowSums.{IsRowSum}
use Rattle.grb_pull.proofs.RowSums.{row_sum-none, row_sum-one, row_sum-join}
use Rattle.grb_pull.proofs.row_sums.sum_each.Goals as goal

pub entries-init : goal.entries-init
entries-init g c =
    let tv = g.T.Scalar.value in
    record {
      after = omega arith;
      before = c.requires.order;
      so_far = row_sum-none g.M.MonoidOver.monoid tv (g.R.SumRule.adds c.args.rule.now) c.args.columns.now c.args.values.now c.requires.same c.args.start (tv c.identity-sum.result) c.identity-sum.ensures;
    }

pub entries-preserved : goal.entries-preserved
entries-preserved g c =
    let tv = g.T.Scalar.value in
    let m = g.M.MonoidOver.monoid in
    let adds = g.R.SumRule.adds c.args.rule.now in
    let cs = c.args.columns.now in
    let vs = c.args.values.now in
    let at = c.entries.at in
    let inside : at < length cs = (let w = c.requires.within in omega (arith, w, c.entries-test.true)) in
    record {
      after = omega (arith, c.entries.invariant.after);
      before = omega (arith, c.entries-test.true);
      so_far = row_sum-join m tv adds cs vs c.requires.same c.args.start at (at + 1) (tv c.entries.sum) (tv c.term-term.result) (tv c.add-sum.result)
          c.entries.invariant.after (omega arith) (omega (arith, inside)) c.entries.invariant.so_far
          (row_sum-one m tv adds cs vs c.requires.same at c.index-values-at.result (tv c.term-term.result) inside c.index-values-at.is c.term-term.ensures.is c.term-term.ensures.of_domain)
          c.add-sum.ensures;
    }

pub returns : goal.returns
returns g c =
    let tv = g.T.Scalar.value in
    let done : c.entries.at ≡ c.args.end = omega (arith, c.entries.invariant.before, c.entries-test.false) in
    subst (λ e. IsRowSum g.M.MonoidOver.monoid tv (g.R.SumRule.adds c.args.rule.now) c.args.columns.now c.args.values.now c.args.start e (tv c.entries.sum)) done c.entries.invariant.so_far
