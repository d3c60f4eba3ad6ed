use Rattle.std.proofs.Common.{◌≡◌, ◌+◌, ◌≤◌, length, take}
use Rattle.std.specs.Prelude.{vec_capacity}
use Rattle.grb_objects.proofs.shared.share_all.Given as goal

abbrev pub invariant-places : goal.invariant-places
invariant-places g l = record {
  same : l.all.items ≡ take l.at l.places.items;
  reserved : length l.places.items + l.room ≤ vec_capacity l.all;
}
