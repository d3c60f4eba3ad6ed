use Rattle.std.proofs.Common.{◌≡◌, ◌+◌, arith, subst}
use Rattle.grb_pull.specs.RowSums.{IsRowSum}
use Rattle.grb_pull.proofs.RowSums.{row_sum-join}
use Rattle.grb_pull.proofs.row_sums.sum_4.Goals as goal

pub returns : goal.returns
returns g c =
    let tv = g.T.Scalar.value in
    let m = g.M.MonoidOver.monoid in
    let adds = g.R.SumRule.adds c.args.rule.now in
    let cs = c.args.columns.now in
    let vs = c.args.values.now in
    let at = c.args.at in
    let four : (at + 2) + 2 ≡ at + 4 = omega arith in
    row_sum-join m tv adds cs vs c.requires.same at (at + 2) (at + 4) (tv c.sum_2-first.result) (tv c.sum_2-second.result) (tv c.add.result) (omega arith) (omega arith) c.requires.within
    c.sum_2-first.ensures (subst (λ e. IsRowSum m tv adds cs vs (at + 2) e (tv c.sum_2-second.result)) four c.sum_2-second.ensures) c.add.ensures
