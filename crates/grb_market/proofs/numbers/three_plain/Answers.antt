use Rattle.grb_market.proofs.PlainLemmas.{three_line}
use Rattle.grb_market.proofs.numbers.three_plain.Goals as goal

pub returns : goal.returns
returns c = three_line _ _ _ _ _ _ _ c.in_ok-i.ensures c.in_ok-j.ensures c.in_ok-value.ensures
