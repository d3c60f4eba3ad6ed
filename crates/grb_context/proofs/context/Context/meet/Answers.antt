use Prim.{search}
use Rattle.std.proofs.Common.{rules}
use Rattle.grb_context.proofs.context.Context.meet.Goals as goal

pub returns-clause-met : goal.returns-clause-met
returns-clause-met c = search rules

pub returns-clause-other : goal.returns-clause-other
returns-clause-other c = search rules
