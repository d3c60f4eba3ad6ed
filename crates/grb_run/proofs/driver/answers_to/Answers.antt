use Rattle.grb_run.proofs.Prelude.{IfOk, steps_listed, AreAnswers}
use Rattle.std.proofs.Common.{subst}
use Rattle.grb_run.proofs.driver.answers_to.Goals as goal

pub returns-clause-answers : goal.returns-clause-answers
returns-clause-answers g c =
    subst (λ room. IfOk c.run_helped.result (λ answers. AreAnswers room (steps_listed c.args.script) answers.items)) c.in_ok-context.ensures.room c.run_helped.ensures.answers
