use Rattle.std.proofs.Common.{sym, ap, ◌∙◌}
use Rattle.grb_call.specs.Shapes.{RoomyShapes}
use Rattle.grb_call.proofs.Absorbed.{shapes_after_accepted, shapes_after_kept}
use Rattle.grb_call.proofs.shapes.Shapes.absorb_accepted.Goals as goal

pub returns-then-changes_shapes-clause-objects : goal.returns-then-changes_shapes-clause-objects
returns-then-changes_shapes-clause-objects c =
    ap (λ (s : RoomyShapes). s.objects) c.reshape.ensures ∙ sym (shapes_after_accepted _ c.args.call.now c.requires.accepted)

pub returns-else-changes_shapes-clause-objects : goal.returns-else-changes_shapes-clause-objects
returns-else-changes_shapes-clause-objects c =
    ap (λ (s : RoomyShapes). s.objects) c.self.view_is ∙ sym (shapes_after_kept _ c.args.call.now (sym c.changes_shapes.ensures ∙ c.if-changes_shapes.false))
