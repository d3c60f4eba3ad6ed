use Rattle.std.proofs.Common.{◌≡◌, Some, map, ◌++◌}
use Rattle.grb_slots.proofs.slots.filled.Given as goal

abbrev pub invariant-values : goal.invariant-values
invariant-values g l = l.places.items ++ map Some l.value-iterator.rest.items ≡ map Some l.fn.values.items
