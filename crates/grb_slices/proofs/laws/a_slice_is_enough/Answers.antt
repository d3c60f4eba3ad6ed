use Rattle.grb_slices.proofs.Sliced.{slice_of_one, slice_of_all}
use Rattle.grb_slices.proofs.laws.a_slice_is_enough.Goals as goal

pub returns : goal.returns
returns c = record { one = slice_of_one; all = slice_of_all }
