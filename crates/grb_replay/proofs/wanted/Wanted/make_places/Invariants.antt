use Rattle.std.proofs.Common.{◌≡◌, ◌≤◌, drop, length}
use Rattle.grb_replay.proofs.Prelude.{Object, HavePlaces, KeepsPlaces, is_wanted}
use Rattle.grb_replay.proofs.wanted.Wanted.make_places.Given as goal

abbrev pub invariant-places : goal.invariant-places
invariant-places l = record {
  within : l.at ≤ length l.objects;
  same : (o : Object) → is_wanted l.self o ≡ is_wanted l.initial.self o;
  places : HavePlaces l.self (drop l.at l.objects);
  kept : KeepsPlaces l.initial.self l.self;
}

abbrev pub decreases-places : goal.decreases-places
decreases-places l = l.at
