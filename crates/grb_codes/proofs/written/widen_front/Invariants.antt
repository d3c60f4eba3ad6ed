use Rattle.std.proofs.Common.{◌≡◌, take}
use Rattle.grb_codes.specs.Arrays.{written}
use Rattle.grb_codes.proofs.written.widen_front.Given as goal

-- the numbers so far are written
abbrev pub invariant-numbers : goal.invariant-numbers
invariant-numbers l = l.array ≡ written (λ n. n) (take l.at l.numbers) l.initial.array
