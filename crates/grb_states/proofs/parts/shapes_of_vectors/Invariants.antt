use Rattle.std.proofs.Common.{◌≡◌, ◌≤◌, length, map, take}
use Rattle.std.specs.Prelude.{vec_capacity}
use Rattle.std.specs.Option.{option_map}
use Rattle.grb_call.specs.Store.{vector_shape}
use Rattle.grb_objects.specs.Stored.{stored_vectors}
use Rattle.grb_states.proofs.parts.shapes_of_vectors.Given as goal

abbrev pub invariant-vectors : goal.invariant-vectors
invariant-vectors l = record {
  shapes : l.all.items ≡ map (option_map vector_shape) (stored_vectors (take l.at l.vectors.items));
  reserved : length l.vectors.items ≤ vec_capacity l.all;
}
