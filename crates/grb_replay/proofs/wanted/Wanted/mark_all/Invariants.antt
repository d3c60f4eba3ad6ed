use Rattle.std.proofs.Common.{◌≡◌, ◌≤◌, ◌||◌, drop, length}
use Rattle.grb_replay.proofs.Prelude.{Object, is_among, KeepsPlaces, is_wanted}
use Rattle.grb_replay.proofs.wanted.Wanted.mark_all.Given as goal

abbrev pub invariant-marks : goal.invariant-marks
invariant-marks l = record {
  within : l.at ≤ length l.objects;
  marks : (o : Object) → is_wanted l.self o ≡ (is_among (drop l.at l.objects) o || is_wanted l.initial.self o);
  kept : KeepsPlaces l.initial.self l.self;
}

abbrev pub decreases-marks : goal.decreases-marks
decreases-marks l = l.at
