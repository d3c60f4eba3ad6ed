use Rattle.grb_order.proofs.Readings.{agree}
use Rattle.grb_order.proofs.laws.seats_agree.Goals as goal

pub returns : goal.returns
returns c = agree
