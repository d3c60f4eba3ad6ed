use Rattle.std.proofs.Common.{◌≡◌, ◌+◌, ◌≤◌, ◌-◌, length, take}
use Rattle.std.specs.Vec.{vec_len, vec_capacity}
use Rattle.grb_core.specs.Entries.{cell_cmp}
use Rattle.grb_core.specs.Written.{pointwise}
use Rattle.grb_lists.specs.Cells.{decoded}
use Rattle.grb_ewise.specs.Marks.{AreClear}
use Rattle.grb_ewise.proofs.RowMerges.{IsFilling}
use Rattle.grb_ewise.proofs.rows.fill_rows.Given as goal

abbrev pub invariant-merging : goal.invariant-merging
invariant-merging g l = record {
  rows_len : vec_len l.rows ≤ l.i + l.j;
  starts_len : vec_len l.starts ≤ l.i + l.j;
  rows_capacity : vec_capacity l.rows ≡ vec_capacity l.fn.rows;
  starts_capacity : vec_capacity l.starts ≡ vec_capacity l.fn.starts;
  within : l.k ≤ length l.columns.items;
  same : length l.values.items ≡ length l.columns.items;
  clear : AreClear l.marks;
  laid : length l.laid.columns.items ≡ length l.laid.values.items;
  filling : IsFilling g.T.Scalar.value (g.R.Rule.gives l.rule) (g.met.R.Rule.none l.rule) (decoded l.a.lists.now.entries) (decoded l.b.lists.now.entries) l.a.lists.now.rows l.b.lists.now.rows
      (pointwise cell_cmp (g.R.Rule.gives l.rule) (decoded l.a.lists.now.entries) (decoded l.b.lists.now.entries))
      l.i l.j l.rows.items l.starts.items (take l.k l.columns.items) (take l.k l.values.items);
}

abbrev pub decreases-merging : goal.decreases-merging
decreases-merging g l = (length l.a.lists.now.rows - l.i) + (length l.b.lists.now.rows - l.j)
