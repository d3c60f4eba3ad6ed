use Prim.{search}
use Rattle.std.proofs.Common.{rules}
use Rattle.grb_ewise.proofs.ranks.is_worth_opening.Goals as goal

pub returns-clause-short : goal.returns-clause-short
returns-clause-short c = search rules
