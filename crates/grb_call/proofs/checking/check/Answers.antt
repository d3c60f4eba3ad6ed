use Prim.{search}
use Rattle.std.proofs.Common.{rules}
use Rattle.grb_call.proofs.checking.check.Goals as goal

pub returns : goal.returns
returns c = search rules
