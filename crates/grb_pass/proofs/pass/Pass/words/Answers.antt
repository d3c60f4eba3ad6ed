use Rattle.std.proofs.Common.{subst}
use Rattle.grb_pass.proofs.Prelude.{OwnBelow, Knowing}
use Rattle.grb_pass.proofs.pass.Pass.words.Goals as goal

pub returns-clause-own : goal.returns-clause-own
returns-clause-own g c = let next = c.self.inside.row.next in (next, subst (λ (k : Knowing). OwnBelow next k.view) c.self.view_is c.self.invariant.own)
