use Rattle.grb_slices.proofs.Stays.{steps-append}
use Rattle.grb_slices.proofs.laws.entries_stay_evaluated.Goals as goal

pub returns : goal.returns
returns c = steps-append
