use Rattle.std.proofs.Common.{◌≡◌, length}
use Rattle.grb_words.specs.Tuples.{matrix_tuples}
use Rattle.grb_words.proofs.TupleLemmas.{then}
use Rattle.grb_words.proofs.tuples.matrix_tuples.Given as goal

abbrev pub invariant-loop-rest : goal.invariant-loop-rest
invariant-loop-rest l = matrix_tuples l.values ≡ then l.tuples.items (matrix_tuples l.rest)

abbrev pub decreases-loop-rest : goal.decreases-loop-rest
decreases-loop-rest l = length l.rest
