use Rattle.grb_links.proofs.Overwritten.{overwritten}
use Rattle.grb_links.proofs.laws.an_overwritten_output_is_not_read.Goals as goal

pub returns : goal.returns
returns c = overwritten
