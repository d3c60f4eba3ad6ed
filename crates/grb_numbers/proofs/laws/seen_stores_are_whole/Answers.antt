use Rattle.grb_numbers.proofs.SeenWhole.{seen_stores_are_whole}
use Rattle.grb_numbers.proofs.laws.seen_stores_are_whole.Goals as goal

pub returns : goal.returns
returns c = seen_stores_are_whole
