use Rattle.grb_script.proofs.FaultLemmas.{first_fault_of_line}
use Rattle.grb_script.proofs.laws.the_first_fault_of_a_line_is_answered.Goals as goal

pub returns : goal.returns
returns c = first_fault_of_line
