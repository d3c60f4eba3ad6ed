use Rattle.std.proofs.Common.{◌≡◌}
use Rattle.grb_reader.specs.LiveNumbers.{vector_ids, numbers_below}
use Rattle.grb_pass.proofs.evaluated.succeeding.all_vectors.Given as goal

abbrev pub invariant-vectors : goal.invariant-vectors
invariant-vectors l = record {
  ids : l.ids.items ≡ vector_ids (numbers_below l.number);
}
