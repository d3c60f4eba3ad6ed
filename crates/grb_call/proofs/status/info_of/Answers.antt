use Prim.{search}
use Rattle.std.proofs.Common.{rules}
use Rattle.grb_call.proofs.status.info_of.Goals as goal

pub returns-in-Err : goal.returns-in-Err
returns-in-Err c = search rules

pub returns-in-Ok-NoValue : goal.returns-in-Ok-NoValue
returns-in-Ok-NoValue c = search rules
