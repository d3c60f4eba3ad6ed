use Rattle.std.proofs.Common.{arith}
use Rattle.grb_script.proofs.FormLemmas.{reading-diag_form, two_words}
use Rattle.grb_script.proofs.statement.diag.Goals as goal
use Rattle.grb_script.proofs.statement.diag.Goals.{in_default-via-then-others-lt2, in_default-via-else-others-lt2+else-others-lt3}

pub returns-in_default-clause-fault : goal.returns-in_default-clause-fault
returns-in_default-clause-fault c =
    reading-diag_form c.args.names.now c.args.name.now c.args.others.now
    (λ l. elim c.in_default.branch [ in_default-via-then-others-lt2 w ↦ absurd (grind arith) | in_default-via-else-others-lt2+else-others-lt3 w ↦ absurd (grind arith) ])

pub returns-clause-read : goal.returns-clause-read
returns-clause-read c = rw (two_words c.args.others.now (omega arith)) c.diag_by_words.ensures.read

pub returns-clause-fault : goal.returns-clause-fault
returns-clause-fault c = rw (two_words c.args.others.now (omega arith)) c.diag_by_words.ensures.fault
