use Rattle.std.proofs.Common.{◌≡◌, ℕ, zero, suc, ◌<◌, [], arith, length, get_or, refl}
use Rattle.grb_sums.specs.Numbers.{numbers_below-length, numbers_below-at}
use Rattle.grb_sums.specs.Naming.{names_list}
use Rattle.grb_sums.proofs.naming.Names.own.Goals as goal

long : (own : ℕ) → length (names_list own []) ≡ own
long zero = refl
long (suc own) = numbers_below-length (suc own)

each : (own p : ℕ) → p < own → get_or (names_list own []) p 0 ≡ p
each zero p l = absurd (omega (arith, l))
each (suc own) p l = numbers_below-at (suc own) p l

pub returns : goal.returns
returns c = record { long = long c.args.count; each = λ p l. each c.args.count p l }
