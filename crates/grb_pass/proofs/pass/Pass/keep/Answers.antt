use Rattle.std.proofs.Common.{◌∙◌, ap}
use Rattle.grb_pass.proofs.Prelude.{Knowing, statuses_with}
use Rattle.grb_pass.proofs.pass.Pass.keep.Goals as goal

pub returns-clause-statuses : goal.returns-clause-statuses
returns-clause-statuses g c = c.keep.ensures.statuses ∙ ap (λ (p : Knowing). statuses_with p c.args.object c.args.answer.now) c.self.view_is
