use Rattle.grb_market.proofs.PlainLemmas.{two_line}
use Rattle.grb_market.proofs.numbers.two_plain.Goals as goal

pub returns : goal.returns
returns c = two_line _ _ _ _ _ c.in_ok-i.ensures c.in_ok-j.ensures
