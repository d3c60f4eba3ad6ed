use Rattle.std.proofs.Common.{◌≡◌, ◌≤◌, length, take}
use Rattle.std.specs.Vec.{vec_len, vec_capacity}
use Rattle.grb_codes.specs.Arrays.{cells_of_arrays}
use Rattle.grb_codes.proofs.builds.matrix_cells.Given as goal

-- the cells so far
abbrev pub invariant-cells : goal.invariant-cells
invariant-cells g l = record {
  cells : l.cells.items ≡ cells_of_arrays g.T.Item.value (take l.at l.rows) (take l.at l.columns) (take l.at l.values);
  len : vec_len l.cells ≡ l.at;
  room : length l.values ≤ vec_capacity l.cells;
}
