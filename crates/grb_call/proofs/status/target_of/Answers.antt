use Prim.{search}
use Rattle.std.proofs.Common.{rules}
use Rattle.grb_call.proofs.status.target_of.Goals as goal

pub returns : goal.returns
returns c = search rules
