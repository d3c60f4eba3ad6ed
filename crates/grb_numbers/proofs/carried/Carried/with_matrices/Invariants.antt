use Rattle.std.proofs.Common.{◌≡◌, map, take}
use Rattle.grb_numbers.specs.Laws.{matrix_numbers}
use Rattle.grb_numbers.specs.Numbers.{outer_number}
use Rattle.grb_numbers.proofs.carried.Carried.with_matrices.Given as goal

abbrev pub invariant-matrices : goal.invariant-matrices
invariant-matrices l = l.carried.items ≡ map (outer_number l.self) (matrix_numbers (take l.a-index l.matrices))
