use Prim.{search}
use Rattle.std.proofs.Common.{◌≡◌, length, sym, ap, ◌∙◌, rules}
use Rattle.grb_run.proofs.SectionSteps.{length-section}
use Rattle.grb_run.proofs.loads.SectionSteps.len.Goals as goal

pub returns : goal.returns
returns c =
    let counted : c.len.result ≡ length c.self.inside.commands.items = search rules in
    counted ∙ sym (length-section c.self.inside.commands.items c.self.inside.loads.items c.self.invariant) ∙ ap length c.self.view_is
