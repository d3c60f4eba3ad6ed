use Prim.{search}
use Rattle.std.proofs.Common.{rules}
use Rattle.grb_state.proofs.applying.reply.Goals as goal

pub returns-in-WaitMatrix : goal.returns-in-WaitMatrix
returns-in-WaitMatrix c = search rules

pub returns-in-WaitMatrix-2 : goal.returns-in-WaitMatrix-2
returns-in-WaitMatrix-2 c = search rules
