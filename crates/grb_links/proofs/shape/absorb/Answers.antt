use Rattle.std.proofs.Common.{is_some, sym, ap, ◌∙◌}
use Rattle.grb_slices.proofs.EffectiveTarget.{target-accepted, target-none}
use Rattle.grb_links.proofs.shape.absorb.Goals as goal

pub absorb_accepted-requires-clause-accepted : goal.absorb_accepted-requires-clause-accepted
absorb_accepted-requires-clause-accepted c =
    target-accepted c.args.shapes.now.objects c.args.call.now (ap is_some (sym c.requires.target) ∙ (sym c.is_some.ensures ∙ c.if-is_some.true))

pub returns-else-is_some : goal.returns-else-is_some
returns-else-is_some c =
    sym (target-none c.args.shapes.now.objects c.args.call.now (ap is_some (sym c.requires.target) ∙ (sym c.is_some.ensures ∙ c.if-is_some.false)))
