use Rattle.std.proofs.Common.{◌≡◌, ◌+◌, ◌++◌, ◌∷◌, [], false, length, get_or, take, refl, ap, sym, subst, ◌∙◌, arith}
use Rattle.std.specs.Prelude.{map}
use Rattle.std.proofs.lemmas.List.{map_more, length-map, length-take}
use Rattle.grb_core.specs.Value.{IsValueOf}
use Rattle.grb_core.specs.Monoid.{monoid_domain, identity_of}
use Rattle.grb_folds.specs.Changed.{remaining}
use Rattle.grb_semirings.proofs.Folds.{IsFolding}
use Rattle.grb_folds.proofs.Windows.{unmarked_step, taken_is}
use Rattle.grb_folds.proofs.changed.fold_unmarked.Goals as goal

pub values-preserved : goal.values-preserved
values-preserved g c =
    let tv = g.T.Scalar.value in
    let m = g.M.MonoidOver.monoid in
    let vs = c.args.values.now in
    let marks = c.args.marks.now in
    let i = c.values.i in
    let x = c.index-values-i.result in
    let so_far = map tv (take i vs) in
    let more : map tv (take (i + 1) vs) ≡ so_far ++ tv x ∷ [] = map_more tv vs i x c.values-test.true ∙ ap (λ v. so_far ++ tv v ∷ []) (sym c.index-values-i.is) in
    let is : IsValueOf (monoid_domain m) (tv x) = subst (λ d. IsValueOf d (tv x)) (sym g.met.M.MonoidOver.same_domain) c.read-value.ensures.of_domain in
    let a = length-map (take i vs) tv in
    let b = length-take i vs in
    let long : length so_far ≡ i = omega (arith, a, b, c.values-test.true) in
    subst (λ us. IsFolding m (remaining (λ q. get_or marks q false) us) (tv c.add-sum.result)) (sym more)
    (unmarked_step m (λ q. get_or marks q false) so_far (tv x) (tv c.values.sum) (tv c.chosen.result) (tv c.add-sum.result) i (get_or marks i false) long refl c.values.invariant is
    (taken_is tv (get_or marks i false) c.identity.result c.read-value.result x c.chosen.result (identity_of m) c.chosen.ensures c.identity.ensures c.read-value.ensures.same)
    c.add-sum.ensures)
