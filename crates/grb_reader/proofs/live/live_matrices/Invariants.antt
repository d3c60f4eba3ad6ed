use Rattle.std.proofs.Common.{◌≡◌}
use Rattle.grb_reader.specs.LiveNumbers.{matrix_ids}
use Rattle.grb_reader.proofs.LiveNumbers.{live_to}
use Rattle.grb_reader.proofs.live.live_matrices.Given as goal

abbrev pub invariant-matrices : goal.invariant-matrices
invariant-matrices l = record {
  ids : l.ids.items ≡ matrix_ids (live_to l.shapes.objects.matrices l.number);
}
