use Prim.{search}
use Rattle.std.proofs.Common.{rules}
use Rattle.grb_context.proofs.context.Context.call_lent.Goals as goal

pub returns-then-enters-clause-answered : goal.returns-then-enters-clause-answered
returns-then-enters-clause-answered c = search rules

pub returns-else-enters-clause-answered : goal.returns-else-enters-clause-answered
returns-else-enters-clause-answered c = search rules
