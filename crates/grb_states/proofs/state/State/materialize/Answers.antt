use Prim.{search}
use Rattle.std.proofs.Common.{rules}
use Rattle.grb_states.proofs.state.State.materialize.Goals as goal

pub returns-clause-assembled : goal.returns-clause-assembled
returns-clause-assembled c = search rules
