use Rattle.grb_slices.proofs.Effects.{own, other, frame}
use Rattle.grb_slices.proofs.laws.a_call_changes_its_target.Goals as goal

pub returns : goal.returns
returns c = record { target = own; others = other; reads = frame }
