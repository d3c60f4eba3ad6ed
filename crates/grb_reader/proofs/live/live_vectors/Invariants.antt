use Rattle.std.proofs.Common.{◌≡◌}
use Rattle.grb_reader.specs.LiveNumbers.{vector_ids}
use Rattle.grb_reader.proofs.LiveNumbers.{live_to}
use Rattle.grb_reader.proofs.live.live_vectors.Given as goal

abbrev pub invariant-vectors : goal.invariant-vectors
invariant-vectors l = record {
  ids : l.ids.items ≡ vector_ids (live_to l.shapes.objects.vectors l.number);
}
