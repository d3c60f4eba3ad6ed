use Rattle.std.proofs.Common.{◌≡◌, take}
use Rattle.grb_codes.specs.Named.{matrices_named}
use Rattle.grb_codes.proofs.named.matrices_named.Given as goal

abbrev pub invariant-numbers : goal.invariant-numbers
invariant-numbers l = l.all.items ≡ matrices_named (take l.at l.numbers)
