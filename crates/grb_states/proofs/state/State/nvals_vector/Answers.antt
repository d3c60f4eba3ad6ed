use Prim.{search}
use Rattle.std.proofs.Common.{rules}
use Rattle.grb_states.proofs.state.State.nvals_vector.Goals as goal

pub returns : goal.returns
returns c = search rules
