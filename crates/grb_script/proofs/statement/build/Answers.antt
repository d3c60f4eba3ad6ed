use Rattle.std.proofs.Common.{arith}
use Rattle.grb_script.proofs.FormLemmas.{one_and_more}
use Rattle.grb_script.proofs.statement.build.Goals as goal

pub returns-clause-says : goal.returns-clause-says
returns-clause-says c = rw (one_and_more c.args.others.now (omega arith)) c.build_by_words.ensures.says

pub returns-clause-fault : goal.returns-clause-fault
returns-clause-fault c = rw (one_and_more c.args.others.now (omega arith)) c.build_by_words.ensures.fault
