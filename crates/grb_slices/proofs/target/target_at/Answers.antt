use Rattle.std.proofs.Common.{sym, ◌∙◌}
use Rattle.grb_slices.proofs.EffectiveTarget.{no_target, its_target}
use Rattle.grb_slices.proofs.target.target_at.Goals as goal

pub returns-in-Err : goal.returns-in-Err
returns-in-Err c = sym (no_target c.args.shapes.now.objects c.args.call.now c.in-Err._refusal (sym c.check.ensures ∙ c.in-Err.is))

pub returns-in-Ok : goal.returns-in-Ok
returns-in-Ok c = c.target_of.ensures ∙ sym (its_target c.args.shapes.now.objects c.args.call.now c.in-Ok._kind (sym c.check.ensures ∙ c.in-Ok.is))
