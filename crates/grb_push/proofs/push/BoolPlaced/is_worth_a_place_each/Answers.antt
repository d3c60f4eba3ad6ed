use Prim.{search}
use Rattle.std.proofs.Common.{rules}
use Rattle.grb_push.proofs.push.BoolPlaced.is_worth_a_place_each.Goals as goal

pub returns-clause-short : goal.returns-clause-short
returns-clause-short c = search rules
