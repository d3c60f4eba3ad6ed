use Prim.{grind}
use Rattle.std.proofs.Common.{arith}
use Rattle.std.proofs.lemmas.Grind.{common_steps}
use Rattle.grb_call.proofs.call.Call.try_clone.Goals as goal

pub returns-clause-equal : goal.returns-clause-equal
returns-clause-equal c = grind (arith, common_steps) steps 20000000
