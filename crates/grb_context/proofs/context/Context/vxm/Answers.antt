use Rattle.grb_context.proofs.context.Context.vxm.Goals as goal

pub returns-clause-answered : goal.returns-clause-answered
returns-clause-answered c = c.call.ensures.answered
