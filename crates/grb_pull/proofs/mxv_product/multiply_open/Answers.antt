use Rattle.std.proofs.Common.{ap, ◌∙◌, List, Bool}
use Rattle.grb_core.specs.Entries.{restricted}
use Rattle.grb_kernels.specs.Typed.{entries_of}
use Rattle.grb_lists.specs.Cells.{decoded}
use Rattle.grb_semirings.specs.Open.{marked_at}
use Rattle.grb_semirings.proofs.Marks.{nothing_marked}
use Rattle.grb_push.specs.Wanted.{is_wanted}
use Rattle.grb_push.proofs.Ordered.{mxv_of-products}
use Rattle.grb_pull.proofs.mxv_product.multiply_open.Goals as goal

pub scatter-requires-clause-clear : goal.scatter-requires-clause-clear
scatter-requires-clause-clear g c j =
    let tv = g.T.Scalar.value in
    let ds = c.as_mut_slice-open_values.result.now in
    ap (λ (ms : List Bool). marked_at tv ms ds j) (c.as_mut_slice-open_marks.ensures.value ∙ c.in_ok-marks.ensures.items_if_clones_equal (λ y e. e))
    ∙ nothing_marked tv c.args.rows.now.ncols ds j

pub returns-then-u-ncols : goal.returns-then-u-ncols
returns-then-u-ncols g c =
    let tv = g.T.Scalar.value in
    let u = c.args.u.now in
    c.in_ok-made.ensures
    ∙ ap (restricted (is_wanted c.args.wanted.now.among c.args.wanted.now.names.now))
    (mxv_of-products (record { monoid = g.M.MonoidOver.monoid; op = g.O.Operator.op }) (decoded c.args.rows.now.lists.now.entries) (entries_of tv u.indices.now u.values.now)
    (marked_at tv c.scatter.new.marks c.scatter.new.dense) c.args.rows.now.ordered c.scatter.ensures)

pub returns : goal.returns
returns g c =
    let tv = g.T.Scalar.value in
    let u = c.args.u.now in
    c.in_ok-made-2.ensures
    ∙ ap (restricted (is_wanted c.args.wanted.now.among c.args.wanted.now.names.now))
    (mxv_of-products (record { monoid = g.M.MonoidOver.monoid; op = g.O.Operator.op }) (decoded c.args.rows.now.lists.now.entries) (entries_of tv u.indices.now u.values.now)
    (marked_at tv c.scatter.new.marks c.scatter.new.dense) c.args.rows.now.ordered c.scatter.ensures)
