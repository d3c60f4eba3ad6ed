use Rattle.std.proofs.Common.{arith}
use Rattle.grb_script.proofs.FormLemmas.{one_and_more}
use Rattle.grb_script.proofs.term.apply.Goals as goal

pub returns : goal.returns
returns c = rw (one_and_more c.args.others.now (omega arith)) c.apply_by_words.ensures
