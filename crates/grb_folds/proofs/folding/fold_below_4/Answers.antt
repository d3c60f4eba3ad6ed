use Rattle.std.proofs.Common.{◌-◌, arith, ap, ◌∙◌, cond, nat_le, drop, take}
use Rattle.std.specs.Prelude.{map}
use Rattle.std.proofs.lemmas.Bool.Decides.{nat_tests}
use Rattle.grb_core.specs.Fold.{fold_of}
use Rattle.grb_semirings.proofs.Marks.{by_test}
use Rattle.grb_folds.proofs.Spans.{part_and_rest}
use Rattle.grb_folds.proofs.folding.fold_below_4.Goals as goal

pub returns : goal.returns
returns g c =
    let tv = g.T.Scalar.value in
    let m = g.M.MonoidOver.monoid in
    let vs = c.args.values.now in
    let at = c.args.at in
    let end = c.args.end in
    let taken = nat_le 2 (end - at) in
    part_and_rest m tv vs g.met.M.MonoidOver.same_domain c.show.ensures at end 2 taken (tv c.fold_2.result) (tv c.fold_below_2.result) (tv c.chosen-part.result) (tv c.add.result) c.requires.order
    (λ t. grind (arith, nat_tests, t)) c.fold_2.ensures
    (ap tv c.chosen-part.ensures ∙ by_test tv taken c.fold_2.result c.identity.result ∙ ap (cond taken (tv c.fold_2.result)) c.identity.ensures)
    (c.fold_below_2.ensures ∙ ap (λ k. fold_of m (map tv (drop k (take end vs)))) c.after.ensures)
    c.add.ensures
