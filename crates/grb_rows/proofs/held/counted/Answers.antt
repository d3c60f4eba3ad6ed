use Prim.{search}
use Rattle.std.proofs.Common.{rules}
use Rattle.grb_rows.proofs.held.counted.Goals as goal

pub returns-then-stood : goal.returns-then-stood
returns-then-stood c = search rules
