use Rattle.std.proofs.Common.{◌≡◌, ◌≤◌, ◌+◌, length, take, drop}
use Rattle.std.specs.Vec.{vec_len, vec_capacity}
use Rattle.grb_lists.specs.Cells.{decoded}
use Rattle.grb_ewise.proofs.MatrixRows.{rows_from}
use Rattle.grb_maps.proofs.Pushing.{IsMaking}
use Rattle.grb_maps.proofs.rows.fill_rows.Given as goal

-- the rows that are left have room
abbrev pub invariant-each : goal.invariant-each
invariant-each g l = record {
  rows_len : vec_len l.rows ≤ l.k;
  starts_len : vec_len l.starts ≤ l.k;
  rows_capacity : vec_capacity l.rows ≡ vec_capacity l.fn.rows;
  starts_capacity : vec_capacity l.starts ≡ vec_capacity l.fn.starts;
  room : l.at + length (rows_from (decoded l.a.entries) (drop l.k l.a.rows)) ≤ length l.a.entries;
  making : IsMaking g.T.Scalar.value (g.E.Each.row_gives l.each) (decoded l.a.entries) l.a.rows
      l.k l.rows.items l.starts.items (take l.at l.columns) (take l.at l.values);
}
