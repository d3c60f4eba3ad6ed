use Prim.{search}
use Rattle.std.proofs.Common.{rules}
use Rattle.grb_semirings.proofs.monoids.LandMonoidOverBool.is_terminal.Goals as goal

pub returns : goal.returns
returns c = search rules
