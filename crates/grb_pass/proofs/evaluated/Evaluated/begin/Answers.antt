use Rattle.std.proofs.Common.{subst, sym}
use Rattle.grb_pass.proofs.Prelude.{Table, IsEvaluatedFor}
use Rattle.grb_pass.proofs.Evaluating.{evaluated_begun}
use Rattle.grb_pass.proofs.evaluated.Evaluated.begin.Goals as goal

pub returns-clause-evaluated : goal.returns-clause-evaluated
returns-clause-evaluated g c p is =
    subst (λ (x : Table). IsEvaluatedFor p x) (sym c.begin.ensures) (evaluated_begun p c.self.inside.table (subst (λ (x : Table). IsEvaluatedFor p x) (sym c.self.view_is) is))
