use Prim.{search}
use Rattle.std.proofs.Common.{rules}
use Rattle.grb_state.proofs.applying.get_matrix.Goals as goal

pub returns : goal.returns
returns c = search rules
