use Prim.{search}
use Rattle.std.proofs.Common.{rules}
use Rattle.grb_context.proofs.context.Context.open_with.Goals as goal

pub returns-clause-passes : goal.returns-clause-passes
returns-clause-passes c = search rules

pub returns-clause-statuses : goal.returns-clause-statuses
returns-clause-statuses c = search rules
