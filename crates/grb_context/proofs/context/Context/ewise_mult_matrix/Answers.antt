use Rattle.grb_context.proofs.context.Context.ewise_mult_matrix.Goals as goal

pub returns-clause-answered : goal.returns-clause-answered
returns-clause-answered c = c.call.ensures.answered
