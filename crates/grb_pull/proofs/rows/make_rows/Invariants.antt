use Rattle.std.proofs.Common.{◌≡◌, ◌≤◌, ◌<◌, ◌++◌, ℕ, length, get_or, drop}
use Rattle.grb_core.specs.Entries.{map_on}
use Rattle.grb_kernels.specs.Typed.{first_entries}
use Rattle.grb_lists.specs.Cells.{decoded}
use Rattle.grb_push.specs.Wanted.{is_wanted}
use Rattle.grb_pull.proofs.WantedRows.{made_at}
use Rattle.grb_pull.proofs.rows.make_rows.Given as goal

-- the results so far, and those of the rows that are left; the numbers that are passed are below these rows
abbrev pub invariant-rows : goal.invariant-rows
invariant-rows g l = record {
  k : l.k ≤ l.place;
  from : l.from ≤ length l.wanted.names.now;
  passed : (q : ℕ) → q < l.from → (j : ℕ) → l.place ≤ j → j < length l.rows → get_or l.wanted.names.now q 0 < get_or l.rows j 0;
  so_far : first_entries g.T.Scalar.value l.k l.indices l.results
      ++ map_on (drop l.place l.rows) (made_at (is_wanted l.wanted.among l.wanted.names.now) (g.R.RowRule.gives l.rule) (decoded l.lists.entries))
      ≡ map_on l.rows (made_at (is_wanted l.wanted.among l.wanted.names.now) (g.R.RowRule.gives l.rule) (decoded l.lists.entries));
}
