use Rattle.std.proofs.Common.{◌≡◌, None, replicate}
use Rattle.grb_slots.proofs.slots.nones.Given as goal

abbrev pub invariant-values : goal.invariant-values
invariant-values g l = l.values.items ≡ replicate l.at None
