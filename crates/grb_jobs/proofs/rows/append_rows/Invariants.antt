use Rattle.std.proofs.Common.{◌<◌, ℕ, length, get_or, ◌++◌}
use Rattle.grb_lists.specs.Cells.{decoded}
use Rattle.grb_ewise.specs.Rows.{flat_entries}
use Rattle.grb_mxm.specs.Rows.{rows_between}
use Rattle.grb_mxm.proofs.Making.{IsMaking}
use Rattle.grb_jobs.proofs.rows.append_rows.Given as goal

-- the rows so far are made, after those that were there, and all are below the last
abbrev pub invariant-joining : goal.invariant-joining
invariant-joining g l = record {
  making : IsMaking g.T.Scalar.value (flat_entries g.T.Scalar.value l.initial.made.rows.items l.initial.made.starts.items l.initial.made.columns.items l.initial.made.values.items ++ rows_between l.from l.upto (decoded l.m.lists.now.entries)) l.numbers l.k l.made.rows.items l.made.starts.items l.made.columns.items l.made.values.items;
  below : (n : ℕ) → n < length l.made.rows.items → get_or l.made.rows.items n 0 < l.upto;
}
