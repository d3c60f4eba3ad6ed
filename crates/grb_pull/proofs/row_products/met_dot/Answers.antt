use Rattle.std.proofs.Common.{sym, ◌∙◌}
use Rattle.grb_pull.proofs.Asked.{none_met}
use Rattle.grb_pull.proofs.row_products.met_dot.Goals as goal

pub returns-then-not-meets : goal.returns-then-not-meets
returns-then-not-meets g c =
    none_met g.M.MonoidOver.monoid g.T.Scalar.value g.O.Operator.op (g.L.Lookup.holds c.args.vector.now) c.args.columns.now c.args.values.now
    (g.T.Scalar.value c.identity.result) c.requires.row (sym c.meets.ensures ∙ c.if-not-meets.true)
