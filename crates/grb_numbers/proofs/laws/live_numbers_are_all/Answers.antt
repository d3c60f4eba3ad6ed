use Rattle.grb_numbers.proofs.LiveNumbers.{live_numbers_are_all}
use Rattle.grb_numbers.proofs.laws.live_numbers_are_all.Goals as goal

pub returns : goal.returns
returns c = live_numbers_are_all
