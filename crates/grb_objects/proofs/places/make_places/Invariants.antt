use Rattle.std.proofs.Common.{◌≡◌, ◌+◌, ◌-◌, ℕ, length}
use Rattle.grb_call.specs.Shapes.{object_at}
use Rattle.grb_objects.specs.Places.{contents_at}
use Rattle.grb_objects.proofs.places.make_places.Given as goal

abbrev pub invariant-places : goal.invariant-places
invariant-places g l = (n : ℕ) → object_at (contents_at g.T.StoredObject.contents l.places.items) n ≡ object_at (contents_at g.T.StoredObject.contents l.initial.places.items) n

abbrev pub decreases-places : goal.decreases-places
decreases-places g l = (l.number + 1) - length l.places.items
