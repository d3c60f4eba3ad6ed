use Rattle.std.proofs.Common.{◌≡◌, map, take}
use Rattle.grb_numbers.specs.Inside.{inner_matrix}
use Rattle.grb_generations.proofs.branches.inner_matrices.Given as goal

abbrev pub invariant-matrices : goal.invariant-matrices
invariant-matrices l = l.all.items ≡ map (inner_matrix l.numbers) (take l.at l.matrices)
