use Rattle.std.proofs.Common.{◌≡◌, map, take}
use Rattle.grb_numbers.specs.Laws.{vector_numbers}
use Rattle.grb_numbers.specs.Numbers.{outer_number}
use Rattle.grb_numbers.proofs.carried.Carried.with_vectors.Given as goal

abbrev pub invariant-vectors : goal.invariant-vectors
invariant-vectors l = l.carried.items ≡ map (outer_number l.self) (vector_numbers (take l.v-index l.vectors))
