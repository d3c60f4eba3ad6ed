use Rattle.std.proofs.Common.{◌≡◌, ◌+◌, arith, subst}
use Rattle.grb_pull.specs.RowSums.{IsRowSum}
use Rattle.grb_pull.proofs.RowSums.{row_sum-one, row_sum-join}
use Rattle.grb_pull.proofs.row_sums.sum_2.Goals as goal

pub returns : goal.returns
returns g c =
    let tv = g.T.Scalar.value in
    let m = g.M.MonoidOver.monoid in
    let adds = g.R.SumRule.adds c.args.rule.now in
    let cs = c.args.columns.now in
    let vs = c.args.values.now in
    let at = c.args.at in
    let two : (at + 1) + 1 ≡ at + 2 = omega arith in
    row_sum-join m tv adds cs vs c.requires.same at (at + 1) (at + 2) (tv c.term-first.result) (tv c.term-second.result) (tv c.add.result) (omega arith) (omega arith) c.requires.within
    (row_sum-one m tv adds cs vs c.requires.same at c.index-values-at.result (tv c.term-first.result) (let w = c.requires.within in omega (arith, w)) c.index-values-at.is c.term-first.ensures.is c.term-first.ensures.of_domain)
    (subst (λ e. IsRowSum m tv adds cs vs (at + 1) e (tv c.term-second.result)) two
    (row_sum-one m tv adds cs vs c.requires.same (at + 1) c.index-values-at-2.result (tv c.term-second.result) (let w = c.requires.within in omega (arith, w)) c.index-values-at-2.is c.term-second.ensures.is c.term-second.ensures.of_domain))
    c.add.ensures
