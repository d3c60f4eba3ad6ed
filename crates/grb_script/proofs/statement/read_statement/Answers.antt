use Rattle.std.proofs.Common.{rules, arith}
use Rattle.grb_script.proofs.FormLemmas.{form_of-words, reading-short}
use Rattle.grb_script.proofs.statement.read_statement.Goals as goal

pub returns-in_default-clause-fault : goal.returns-in_default-clause-fault
returns-in_default-clause-fault c = reading-short c.args.names.now c.args.version c.args.words.now (λ l. absurd (omega arith))

pub returns-clause-read : goal.returns-clause-read
returns-clause-read c = rw (form_of-words c.args.version c.args.words.now c.in-Some.keyword (omega arith) (search rules) (search rules)) c.statement_with.ensures.read

pub returns-clause-fault : goal.returns-clause-fault
returns-clause-fault c = rw (form_of-words c.args.version c.args.words.now c.in-Some.keyword (omega arith) (search rules) (search rules)) c.statement_with.ensures.fault
