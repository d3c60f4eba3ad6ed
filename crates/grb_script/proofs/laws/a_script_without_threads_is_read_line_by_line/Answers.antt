use Rattle.grb_script.proofs.LawLemmas.{without_threads}
use Rattle.grb_script.proofs.laws.a_script_without_threads_is_read_line_by_line.Goals as goal

pub returns : goal.returns
returns c = without_threads
