use Prim.{grind}
use Rattle.std.proofs.Common.{sym, arith}
use Rattle.grb_script.proofs.FormLemmas.{reading-wait_form}
use Rattle.grb_script.proofs.statement.wait.Goals as goal
use Rattle.grb_script.proofs.statement.wait.Goals.{in_default-via-then-others-lt1, in_default-via-else-others-lt1+else-others-lt2}

pub returns-in_default : goal.returns-in_default
returns-in_default c =
    sym (
    reading-wait_form c.args.names.now c.args.name.now c.args.others.now
    (λ l. elim c.in_default.branch [ in_default-via-then-others-lt1 w ↦ absurd (grind arith) | in_default-via-else-others-lt1+else-others-lt2 w ↦ absurd (grind arith) ])
    )
