use Rattle.std.proofs.Common.{◌≡◌, ◌≤◌, length, take}
use Rattle.std.specs.Vec.{vec_len, vec_capacity}
use Rattle.grb_codes.specs.Arrays.{indices_of_arrays}
use Rattle.grb_codes.proofs.builds.vector_cells.Given as goal

-- the cells so far
abbrev pub invariant-cells : goal.invariant-cells
invariant-cells g l = record {
  cells : l.cells.items ≡ indices_of_arrays g.T.Item.value (take l.at l.indices) (take l.at l.values);
  len : vec_len l.cells ≡ l.at;
  room : length l.values ≤ vec_capacity l.cells;
}
