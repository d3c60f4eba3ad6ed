use Rattle.std.proofs.Common.{ap, sym, subst, cond, ◌∙◌}
use Rattle.grb_core.specs.Value.{IsValueOf}
use Rattle.grb_core.specs.Monoid.{monoid_domain}
use Rattle.grb_semirings.proofs.Marks.{by_test}
use Rattle.grb_pull.proofs.RowSums.{product_by_mark, chosen_of_domain}
use Rattle.grb_pull.proofs.row_products.RowTimesVectorSumRule.term.Goals as goal

pub returns-clause-is : goal.returns-clause-is
returns-clause-is g c =
    let tv = g.T.Scalar.value in
    let here = c.at-held.result.1 in
    product_by_mark g.M.MonoidOver.monoid g.O.Operator.op (g.L.Lookup.holds c.args.self.now.vector.now c.args.column) (tv c.args.value) (tv c.at-held.result.0) (tv c.read-product.result) (tv c.chosen.result) here
    (sym c.at-held.ensures) (ap tv c.read-product.ensures.same ∙ c.apply-made.ensures)
    (ap tv c.chosen.ensures ∙ by_test tv here c.read-product.result c.identity.result ∙ ap (cond here (tv c.read-product.result)) c.identity.ensures)

pub returns-clause-of_domain : goal.returns-clause-of_domain
returns-clause-of_domain g c =
    let tv = g.T.Scalar.value in
    let m = g.M.MonoidOver.monoid in
    let here = c.at-held.result.1 in
    let product = c.read-product.result in
    let is : IsValueOf (monoid_domain m) (tv product) =
    subst (λ p. IsValueOf (monoid_domain m) (tv p)) (sym c.read-product.ensures.same) (subst (λ d. IsValueOf d (tv c.apply-made.result)) (sym g.met.M.MonoidOver.same_domain) c.read-product.ensures.of_domain) in
    chosen_of_domain m (tv product) (tv c.chosen.result) here is
    (ap tv c.chosen.ensures ∙ by_test tv here product c.identity.result ∙ ap (cond here (tv product)) c.identity.ensures)
