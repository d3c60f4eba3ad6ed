use Rattle.grb_folds.proofs.Spans.{some_fold}
use Rattle.grb_pull.proofs.reduce_folds.SumRowRule.row.Goals as goal

pub returns : goal.returns
returns g c =
    some_fold g.M.MonoidOver.monoid g.T.Scalar.value c.args._columns.now c.args.values.now c.args.start c.args.end (g.T.Scalar.value c.fold_values.result)
    c.requires.same c.requires.some c.requires.within c.fold_values.ensures
