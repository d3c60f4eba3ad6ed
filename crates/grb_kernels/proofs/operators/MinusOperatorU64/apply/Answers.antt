use Prim.{search}
use Rattle.std.proofs.Common.{rules}
use Rattle.grb_kernels.proofs.operators.MinusOperatorU64.apply.Goals as goal

pub returns : goal.returns
returns c = search rules
