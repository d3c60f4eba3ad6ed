use Rattle.std.proofs.Common.{◌≡◌}
use Rattle.grb_reader.specs.LiveNumbers.{matrix_ids, numbers_below}
use Rattle.grb_pass.proofs.evaluated.succeeding.all_matrices.Given as goal

abbrev pub invariant-matrices : goal.invariant-matrices
invariant-matrices l = record {
  ids : l.ids.items ≡ matrix_ids (numbers_below l.number);
}
