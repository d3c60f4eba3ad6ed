use Rattle.std.proofs.Common.{◌<◌}
use Rattle.std.proofs.lemmas.List.Elements.{recursion_from_All}
use Rattle.std.specs.Ordering.{nat_cmp}
use Rattle.grb_core.specs.Entries.{built_from}
use Rattle.grb_kernels.specs.Typed.{entries_of}
use Rattle.grb_lists.specs.Cells.{decoded}
use Rattle.grb_sums.specs.ColumnSums.{column_folds, numbers_below}
use Rattle.grb_push.specs.Pushes.{pushed}
use Rattle.grb_push.specs.Wanted.{is_wanted}
use Rattle.grb_sums.proofs.ColumnFolds.{column_folds-all}
use Rattle.grb_push.proofs.Bounded.{made-same}
use Rattle.grb_push.proofs.Pushing.{within-pushed}
use Rattle.grb_push.proofs.push.sum_each_row.Goals as goal

pub returns : goal.returns
returns g c =
    let f = g.S.Side.makes g.O.Operator.op in
    let a = decoded c.args.lists.now.entries in
    let u = entries_of g.T.Scalar.value c.args.u.now.indices.now c.args.u.now.values.now in
    let w = c.args.wanted.now in
    let made = c.in_ok-made.made in
    made-same made.1 (is_wanted w.among w.names.now) (column_folds g.M.MonoidOver.monoid (numbers_below c.args.ncols) (pushed f u a)) (built_from nat_cmp g.M.MonoidOver.monoid (pushed f u a))
    (entries_of g.T.Scalar.value made.0.indices.items made.0.values.items)
    (column_folds-all g.M.MonoidOver.monoid c.args.ncols (pushed f u a) (within-pushed (λ j. j < c.args.ncols) f u a (recursion_from_All (λ e. e.0.1 < c.args.ncols) a c.requires.in_range)))
    (c.in_ok-made.ensures g.M.MonoidOver.monoid (pushed f u a) c.add_each_row.ensures.added)
