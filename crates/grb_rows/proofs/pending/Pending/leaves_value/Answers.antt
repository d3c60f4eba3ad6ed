use Prim.{search}
use Rattle.std.proofs.Common.{rules}
use Rattle.grb_rows.proofs.pending.Pending.leaves_value.Goals as goal

pub returns-in-Some : goal.returns-in-Some
returns-in-Some c = search rules
