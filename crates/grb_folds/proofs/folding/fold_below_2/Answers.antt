use Rattle.std.proofs.Common.{arith, ap, sym, subst, ◌∙◌, cond, nat_lt}
use Rattle.std.proofs.lemmas.Bool.Decides.{nat_tests}
use Rattle.grb_core.specs.Value.{IsValueOf}
use Rattle.grb_core.specs.Monoid.{monoid_domain, identity_of}
use Rattle.grb_semirings.proofs.Marks.{by_test}
use Rattle.grb_folds.proofs.Spans.{below_two}
use Rattle.grb_folds.proofs.folding.fold_below_2.Goals as goal

pub returns : goal.returns
returns g c =
    let tv = g.T.Scalar.value in
    let m = g.M.MonoidOver.monoid in
    let at = c.args.at in
    let end = c.args.end in
    let x = c.index-values-at.result in
    let taken = nat_lt at end in
    let is : IsValueOf (monoid_domain m) (tv x) = subst (λ d. IsValueOf d (tv x)) (sym g.met.M.MonoidOver.same_domain) c.read.ensures.of_domain in
    below_two m tv c.args.values.now at end taken x (tv c.chosen.result) c.requires.order c.requires.few c.requires.reach c.index-values-at.is is
    (λ t. grind (arith, nat_tests, t)) (λ t. grind (arith, nat_tests, t))
    (ap tv c.chosen.ensures ∙ by_test tv taken c.read.result c.identity.result ∙ ap (cond taken (tv c.read.result)) c.identity.ensures ∙ ap (λ v. cond taken (tv v) (identity_of m)) c.read.ensures.same)
