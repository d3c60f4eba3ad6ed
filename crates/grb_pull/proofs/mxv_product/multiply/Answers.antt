use Prim.{search}
use Rattle.std.proofs.Common.{ap, rules, refl, ◌∙◌}
use Rattle.std.specs.Ordering.{nat_cmp}
use Rattle.std.specs.FinMap.{find}
use Rattle.grb_core.specs.Entries.{restricted}
use Rattle.grb_kernels.specs.Typed.{entries_of}
use Rattle.grb_lists.specs.Cells.{decoded}
use Rattle.grb_push.specs.Wanted.{is_wanted}
use Rattle.grb_push.proofs.Ordered.{mxv_of-products}
use Rattle.grb_pull.proofs.mxv_product.multiply.Goals as goal

pub returns : goal.returns
returns g c =
    let tv = g.T.Scalar.value in
    let u = c.args.u.now in
    c.in_ok-made-3.ensures
    ∙ ap (restricted (is_wanted c.args.wanted.now.among c.args.wanted.now.names.now))
    (mxv_of-products (record { monoid = g.M.MonoidOver.monoid; op = g.O.Operator.op }) (decoded c.args.rows.now.lists.now.entries) (entries_of tv u.indices.now u.values.now)
    (λ j. find nat_cmp j (entries_of tv u.indices.now u.values.now)) c.args.rows.now.ordered (λ j. refl))

pub multiply_open-requires-clause-short : goal.multiply_open-requires-clause-short
multiply_open-requires-clause-short g c = search rules
