use Rattle.std.proofs.Common.{◌≡◌, ◌-◌, ◌≤◌, length}
use Rattle.grb_lists.specs.Cells.{entries_within}
use Rattle.grb_rows.proofs.Merging.{so_far, RowBelow, ChangesBelow}
use Rattle.grb_rows.proofs.merge.merged_within.Given as goal

-- the entries and the changes so far are put together, those that are within
abbrev pub invariant-loop-j : goal.invariant-loop-j
invariant-loop-j l = record {
  i : l.i ≤ length l.row.entries;
  entries : l.new.entries ≡ entries_within l.fn.dims.0 l.fn.dims.1 (so_far l.row.entries l.changes.items l.i l.j);
  row_below : RowBelow l.row.entries l.changes.items l.i l.j;
  changes_below : ChangesBelow l.row.entries l.changes.items l.i l.j;
  domain : l.new.domain ≡ l.row.domain;
  room : length l.changes.items - l.j ≤ l.new.room;
}
