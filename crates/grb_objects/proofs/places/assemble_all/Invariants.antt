use Rattle.std.proofs.Common.{◌≡◌, ℕ, ◌<◌, vec_capacity}
use Rattle.grb_objects.specs.Places.{contents_at, IsAssembledAt}
use Rattle.grb_objects.proofs.places.assemble_all.Given as goal

abbrev pub invariant-loop-n : goal.invariant-loop-n
invariant-loop-n g l = record {
  same : contents_at g.T.StoredObject.contents l.places.items ≡ contents_at g.T.StoredObject.contents l.initial.places.items;
  assembled : (m : ℕ) → m < l.n → IsAssembledAt g.T.StoredObject.is_assembled l.places.items m;
  capacity : vec_capacity l.places ≡ vec_capacity l.initial.places;
}
