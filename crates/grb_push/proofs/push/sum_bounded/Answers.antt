use Rattle.std.proofs.Common.{◌∙◌}
use Rattle.grb_sums.specs.ColumnSums.{as_entries}
use Rattle.grb_lists.specs.Cells.{decoded}
use Rattle.grb_push.specs.Pushes.{pushed, at_numbers}
use Rattle.grb_push.proofs.Bounded.{column_folds-bounded}
use Rattle.grb_push.proofs.push.sum_bounded.Goals as goal

pub returns : goal.returns
returns g c =
    let picks = c.args.picks.now in
    let u = at_numbers c.args.lists.now.rows (as_entries g.T.Scalar.value picks) in
    c.in_ok-made.ensures
    ∙ column_folds-bounded g.M.MonoidOver.monoid c.args.names.now (pushed (g.S.Side.makes g.O.Operator.op) u (decoded c.args.lists.now.entries)) c.requires.rising
