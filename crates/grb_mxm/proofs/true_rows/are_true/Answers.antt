use Rattle.std.proofs.Common.{false, get_or, inl, inr, arith, ap, ◌∙◌}
use Rattle.std.proofs.lemmas.Bool.{cases_eq}
use Rattle.grb_mxm.proofs.true_rows.are_true.Goals as goal

pub values-preserved : goal.values-preserved
values-preserved c t k l =
    let vs = c.args.values.now in
    let i = c.values.i in
    elim (cases_eq k i) [
      | inl e ↦ ap (λ j. get_or vs j false) e ∙ c.true_too-all.ensures.here t
      | inr n ↦ c.values.invariant (c.true_too-all.ensures.before t) k (omega (arith, l, n))
    ]
