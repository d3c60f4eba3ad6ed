use Rattle.std.proofs.Common.{ap, ◌∙◌}
use Rattle.grb_core.specs.Entries.{restricted}
use Rattle.grb_kernels.specs.Typed.{entries_of}
use Rattle.grb_lists.specs.Cells.{decoded}
use Rattle.grb_sums.specs.Bits.{value_at}
use Rattle.grb_pull.proofs.Full.{stored_full}
use Rattle.grb_push.specs.Wanted.{is_wanted}
use Rattle.grb_push.proofs.Ordered.{mxv_of-products}
use Rattle.grb_pull.proofs.mxv_product.multiply_full.Goals as goal

pub returns-then-seem_unlike : goal.returns-then-seem_unlike
returns-then-seem_unlike g c =
    let tv = g.T.Scalar.value in
    let u = c.args.u.now in
    c.in_ok-made.ensures
    ∙ ap (restricted (is_wanted c.args.wanted.now.among c.args.wanted.now.names.now))
    (mxv_of-products (record { monoid = g.M.MonoidOver.monoid; op = g.O.Operator.op }) (decoded c.args.rows.now.lists.now.entries) (entries_of tv u.indices.now u.values.now)
    (value_at tv u.values.now) c.args.rows.now.ordered
    (stored_full tv c.args.rows.now.ncols u.indices.now u.values.now u.rising u.same c.requires.u_in_range c.requires.full))

pub returns : goal.returns
returns g c =
    let tv = g.T.Scalar.value in
    let u = c.args.u.now in
    c.in_ok-made-2.ensures
    ∙ ap (restricted (is_wanted c.args.wanted.now.among c.args.wanted.now.names.now))
    (mxv_of-products (record { monoid = g.M.MonoidOver.monoid; op = g.O.Operator.op }) (decoded c.args.rows.now.lists.now.entries) (entries_of tv u.indices.now u.values.now)
    (value_at tv u.values.now) c.args.rows.now.ordered
    (stored_full tv c.args.rows.now.ncols u.indices.now u.values.now u.rising u.same c.requires.u_in_range c.requires.full))
