use Rattle.std.proofs.Common.{arith}
use Rattle.grb_script.proofs.FormLemmas.{one_and_more}
use Rattle.grb_script.proofs.term.transpose.Goals as goal

pub returns : goal.returns
returns c = rw (one_and_more c.args.others.now (omega arith)) c.transpose_by_words.ensures
