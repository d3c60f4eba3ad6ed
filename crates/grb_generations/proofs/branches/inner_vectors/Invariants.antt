use Rattle.std.proofs.Common.{◌≡◌, map, take}
use Rattle.grb_numbers.specs.Inside.{inner_vector}
use Rattle.grb_generations.proofs.branches.inner_vectors.Given as goal

abbrev pub invariant-vectors : goal.invariant-vectors
invariant-vectors l = l.all.items ≡ map (inner_vector l.numbers) (take l.at l.vectors)
