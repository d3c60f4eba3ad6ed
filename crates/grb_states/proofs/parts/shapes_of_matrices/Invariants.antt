use Rattle.std.proofs.Common.{◌≡◌, ◌≤◌, length, map, take}
use Rattle.std.specs.Prelude.{vec_capacity}
use Rattle.std.specs.Option.{option_map}
use Rattle.grb_call.specs.Store.{matrix_shape}
use Rattle.grb_objects.specs.Stored.{stored_matrices}
use Rattle.grb_states.proofs.parts.shapes_of_matrices.Given as goal

abbrev pub invariant-matrices : goal.invariant-matrices
invariant-matrices l = record {
  shapes : l.all.items ≡ map (option_map matrix_shape) (stored_matrices (take l.at l.matrices.items));
  reserved : length l.matrices.items ≤ vec_capacity l.all;
}
