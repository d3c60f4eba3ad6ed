use Rattle.std.proofs.Common.{◌≡◌, take}
use Rattle.grb_codes.specs.Named.{vectors_named}
use Rattle.grb_codes.proofs.named.vectors_named.Given as goal

abbrev pub invariant-numbers : goal.invariant-numbers
invariant-numbers l = l.all.items ≡ vectors_named (take l.at l.numbers)
