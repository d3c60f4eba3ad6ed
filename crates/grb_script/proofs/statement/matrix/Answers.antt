use Rattle.std.proofs.Common.{arith}
use Rattle.grb_script.proofs.FormLemmas.{reading-matrix_form, three_words}
use Rattle.grb_script.proofs.statement.matrix.Goals as goal
use Rattle.grb_script.proofs.statement.matrix.Goals.{in_default-via-then-others-lt3, in_default-via-else-others-lt3+else-others-lt4}

pub returns-in_default-clause-fault : goal.returns-in_default-clause-fault
returns-in_default-clause-fault c =
    reading-matrix_form c.args.names.now c.args.name.now c.args.others.now
    (λ l. elim c.in_default.branch [ in_default-via-then-others-lt3 w ↦ absurd (grind arith) | in_default-via-else-others-lt3+else-others-lt4 w ↦ absurd (grind arith) ])

pub returns-clause-read : goal.returns-clause-read
returns-clause-read c = rw (three_words c.args.others.now (omega arith)) c.matrix_of.ensures.read

pub returns-clause-fault : goal.returns-clause-fault
returns-clause-fault c = rw (three_words c.args.others.now (omega arith)) c.matrix_of.ensures.fault
