use Prim.{search}
use Rattle.std.proofs.Common.{rules}
use Rattle.grb_states.proofs.state.State.is_build_over_entries.Goals as goal

pub returns-in-BuildVector : goal.returns-in-BuildVector
returns-in-BuildVector c = search rules
