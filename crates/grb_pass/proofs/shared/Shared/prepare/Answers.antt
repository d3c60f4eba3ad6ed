use Rattle.std.proofs.Common.{ap}
use Rattle.grb_pass.proofs.Prelude.{Knowing, pass_same}
use Rattle.grb_pass.proofs.shared.Shared.prepare.Goals as goal

pub returns-clause-pass : goal.returns-clause-pass
returns-clause-pass g c = pass_same c.args.self.now c.args.pass.now c.prepare.new.self (ap (λ (p : Knowing). p.order) c.prepare.ensures.same) (ap (λ (p : Knowing). p.shown) c.prepare.ensures.same) c.requires
