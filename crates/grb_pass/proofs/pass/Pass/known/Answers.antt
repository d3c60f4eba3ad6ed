use Rattle.std.proofs.Common.{length, ap, ◌∙◌}
use Rattle.grb_pass.proofs.Prelude.{Knowing, known}
use Rattle.grb_pass.proofs.pass.Pass.known.Goals as goal

pub returns : goal.returns
returns g c = c.known.ensures.known ∙ ap (λ (p : Knowing). length (known p)) c.self.view_is
