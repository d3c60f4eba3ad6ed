use Rattle.std.proofs.Common.{length}
use Rattle.grb_script.proofs.names.digest_of_names.Given as goal

abbrev pub decreases-lines : goal.decreases-lines
decreases-lines l = length l.rest
