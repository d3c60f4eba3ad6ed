use Rattle.std.proofs.Common.{◌≡◌, length}
use Rattle.grb_words.specs.Tuples.{vector_tuples}
use Rattle.grb_words.proofs.TupleLemmas.{then}
use Rattle.grb_words.proofs.tuples.vector_tuples.Given as goal

abbrev pub invariant-loop-rest : goal.invariant-loop-rest
invariant-loop-rest l = vector_tuples l.values ≡ then l.tuples.items (vector_tuples l.rest)

abbrev pub decreases-loop-rest : goal.decreases-loop-rest
decreases-loop-rest l = length l.rest
