use Prim.{search}
use Rattle.std.proofs.Common.{rules}
use Rattle.grb_context.proofs.context.Context.get_matrix.Goals as goal

pub returns-clause-answered : goal.returns-clause-answered
returns-clause-answered c = search rules
