use Rattle.std.proofs.Common.{ap, ◌∙◌, subst}
use Rattle.grb_run.proofs.Prelude.{Answered, call_of}
use Rattle.grb_run.proofs.section.answer_to.Goals as goal

pub returns-clause-answered : goal.returns-clause-answered
returns-clause-answered c =
    subst (λ call. Answered c.args.context.now c.args.pass.now c.call-answer.new.pass call c.call-answer.result)
    (c.call_of.ensures ∙ ap (λ objects. call_of objects c.args.statement) c.deref.ensures.value) c.call-answer.ensures.answered
