use Prim.{search}
use Rattle.std.proofs.Common.{rules}
use Rattle.grb_kernels.proofs.scalar.U64Scalar.is_true.Goals as goal

pub returns : goal.returns
returns c = search rules
