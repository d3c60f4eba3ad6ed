use Rattle.std.proofs.Common.{[], ◌∷◌, ◌++◌, refl, ap, ◌∙◌}
use Rattle.grb_links.specs.Nodes.{NodeList}
use Rattle.grb_links.proofs.Packing.{pushed}
use Rattle.grb_links.proofs.nodes.Nodes.push.Goals as goal

pub returns : goal.returns
returns c =
    let inside = c.self.inside in let kept = c.keep-rest in
    pushed inside.rests.items kept.new.rests.items kept.ensures.kept inside.packed.items c.push_reserved.new.self.items _ c.args.node c.self.invariant c.rest_of.ensures.four c.target_of.ensures refl (kept.ensures.rest ∙ c.rest_of.ensures.rest)
    c.push_reserved.ensures.items
    ∙ ap (λ (l : NodeList). l.items ++ c.args.node ∷ []) c.self.view_is
