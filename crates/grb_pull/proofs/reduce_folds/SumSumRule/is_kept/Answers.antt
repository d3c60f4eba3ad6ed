use Rattle.grb_pull.proofs.RowSums.{some_values}
use Rattle.grb_pull.proofs.reduce_folds.SumSumRule.is_kept.Goals as goal

pub returns : goal.returns
returns g c =
    some_values g.M.MonoidOver.monoid g.T.Scalar.value c.args._columns.now c.args._values.now c.args._start c.args._end (g.T.Scalar.value c.args._sum)
    c.requires.same c.requires.some c.requires.within c.requires.is_sum
