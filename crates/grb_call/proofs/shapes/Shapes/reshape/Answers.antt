use Prim.{search}
use Rattle.std.proofs.Common.{rules}
use Rattle.grb_call.proofs.shapes.Shapes.reshape.Goals as goal

pub returns-in-DupVector : goal.returns-in-DupVector
returns-in-DupVector c = search rules

pub returns-in-FreeMatrix : goal.returns-in-FreeMatrix
returns-in-FreeMatrix c = search rules

pub returns-in-ResizeMatrix : goal.returns-in-ResizeMatrix
returns-in-ResizeMatrix c = search rules
