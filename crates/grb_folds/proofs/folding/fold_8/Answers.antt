use Rattle.std.proofs.Common.{◌+◌, arith}
use Rattle.grb_folds.proofs.Spans.{two_spans}
use Rattle.grb_folds.proofs.folding.fold_8.Goals as goal

pub returns : goal.returns
returns g c =
    let tv = g.T.Scalar.value in
    let at = c.args.at in
    (two_spans g.M.MonoidOver.monoid tv c.args.values.now g.met.M.MonoidOver.same_domain c.show.ensures at 4 (at + 8) (tv c.fold_4.result) (tv c.fold_4-2.result) (tv c.add.result)
    (omega arith) c.fold_4.ensures c.fold_4-2.ensures c.add.ensures).is_sum
