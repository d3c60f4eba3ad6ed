use Rattle.std.proofs.Common.{arith}
use Rattle.grb_script.proofs.FormLemmas.{one_and_more}
use Rattle.grb_script.proofs.term.select.Goals as goal

pub returns : goal.returns
returns c = rw (one_and_more c.args.others.now (omega arith)) c.select_by_words.ensures
