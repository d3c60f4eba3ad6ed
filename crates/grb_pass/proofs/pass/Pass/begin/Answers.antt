use Rattle.std.proofs.Common.{◌≤◌, length, subst}
use Rattle.grb_pass.proofs.Prelude.{Knowing, known}
use Rattle.grb_pass.proofs.pass.Pass.begin.Goals as goal

pub returns-clause-settled : goal.returns-clause-settled
returns-clause-settled g c = subst (λ (k : Knowing). k.settled ≤ length (known k)) c.self.view_is c.self.invariant.step.evaluated.within
