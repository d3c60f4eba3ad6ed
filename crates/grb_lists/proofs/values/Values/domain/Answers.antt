use Prim.{search}
use Rattle.std.proofs.Common.{rules}
use Rattle.grb_lists.proofs.values.Values.domain.Goals as goal

pub returns-in-Bool : goal.returns-in-Bool
returns-in-Bool c = search rules
