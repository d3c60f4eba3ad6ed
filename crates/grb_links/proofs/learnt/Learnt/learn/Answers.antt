use Rattle.std.proofs.Common.{◌≡◌, ℕ, ◌≤◌, arith, ap, subst, ◌++◌, [], ◌∷◌, List, length, ◌∙◌}
use Rattle.grb_call.specs.Refused.{shapes_after}
use Rattle.grb_call.specs.Shapes.{ObjectShapes}
use Rattle.grb_call.proofs.Counted.{shapes_grow}
use Rattle.grb_links.specs.declared.node.Node.{Node}
use Rattle.grb_links.specs.declared.shape.Shape.{Shape}
use Rattle.grb_links.specs.Overwrites.{shape_noted}
use Rattle.grb_links.proofs.Frame.{learns, still_few}
use Rattle.grb_links.proofs.LastOf.{last_or}
use Rattle.grb_links.proofs.learnt.Learnt.learn.Goals as goal

pub invariant_of-self-2-clause-matrices : goal.invariant_of-self-2-clause-matrices
invariant_of-self-2-clause-matrices c =
    still_few (λ u. length u.matrices) c.args.self.now.shapes.objects c.reserve_one.new.self.objects c.absorb.new.shapes.objects c.args.call.now _ _ _ _ (shapes_grow _ c.args.call.now).0
    c.reserve_one.ensures.objects c.absorb.ensures c.reserve.ensures.items c.push.ensures c.args.self.now.matrices

pub invariant_of-self-2-clause-vectors : goal.invariant_of-self-2-clause-vectors
invariant_of-self-2-clause-vectors c =
    still_few (λ u. length u.vectors) c.args.self.now.shapes.objects c.reserve_one.new.self.objects c.absorb.new.shapes.objects c.args.call.now _ _ _ _ (shapes_grow _ c.args.call.now).1
    c.reserve_one.ensures.objects c.absorb.ensures c.reserve.ensures.items c.push.ensures c.args.self.now.vectors

pub returns-clause-learnt : goal.returns-clause-learnt
returns-clause-learnt c cs was here =
    let node : Node = record { target = c.target_at-target.result; links = c.links_of-links.result; noted = c.note-noted.result } in
    learns cs c.args.self.now _ c.args.call.now node was here c.target_at-target.ensures c.links_of-links.ensures
    c.note-noted.ensures.within (c.note-noted.ensures.shape ∙ c.shape_needed-shape.ensures)
    (subst (λ (ss : List Shape). (m : ℕ) → m ≤ length ss → shape_noted c.note-noted.new.noted.items m ≡ shape_noted ss m) c.make_room.ensures.same c.note-noted.ensures.kept)
    (subst (λ (ss : List Shape). length ss ≤ length c.note-noted.new.noted.items) c.make_room.ensures.same c.note-noted.ensures.more)
    (c.push.ensures ∙ ap (λ (xs : List Node). xs ++ node ∷ []) c.reserve.ensures.items)
    (c.absorb.ensures ∙ ap (λ (u : ObjectShapes). shapes_after u c.args.call.now) c.reserve_one.ensures.objects) _ (omega (arith, c.len.ensures)) c.in_ok-change.ensures.ok

pub returns-clause-lasts : goal.returns-clause-lasts
returns-clause-lasts c o = last_or c.target_at-target.result _ _ o _ (c.in_ok-change.ensures.ok o) (omega (arith, c.len.ensures))
