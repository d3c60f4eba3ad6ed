use Rattle.std.proofs.Common.{sym, arith}
use Rattle.grb_script.proofs.FormLemmas.{reading-kronecker_form, three_and_more}
use Rattle.grb_script.proofs.term.kronecker.Goals as goal

pub returns-in_default : goal.returns-in_default
returns-in_default c = sym (reading-kronecker_form c.args.names.now c.args.version c.args.output.now c.args.others.now (λ l. absurd (omega arith)))

pub returns : goal.returns
returns c = rw (three_and_more c.args.others.now (omega arith)) c.kronecker_by_words.ensures
