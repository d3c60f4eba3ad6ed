use Rattle.std.proofs.Common.{◌≡◌, ◌≤◌, drop, length}
use Rattle.grb_states.specs.Objects.{AreAllIn, places_of, store_of}
use Rattle.grb_operations.proofs.operations.assemble_each.Given as goal

abbrev pub invariant-each : goal.invariant-each
invariant-each l = record {
  within : l.at ≤ length l.read;
  same : store_of l.objects ≡ store_of l.initial.objects;
  assembled : AreAllIn l.objects (drop l.at l.read);
  places : places_of l.objects ≡ places_of l.initial.objects;
}

abbrev pub decreases-each : goal.decreases-each
decreases-each l = l.at
