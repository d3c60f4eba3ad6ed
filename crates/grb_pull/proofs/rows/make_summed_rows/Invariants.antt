use Rattle.std.proofs.Common.{◌≡◌, ◌≤◌, ◌<◌, ◌+◌, ◌++◌, ℕ, length, get_or, drop}
use Rattle.grb_core.specs.Entries.{map_on}
use Rattle.grb_kernels.specs.Typed.{first_entries}
use Rattle.grb_lists.specs.Cells.{decoded}
use Rattle.grb_pull.specs.RowSums.{AreSums}
use Rattle.grb_push.specs.Wanted.{is_wanted}
use Rattle.grb_pull.proofs.WantedRows.{made_at}
use Rattle.grb_pull.proofs.rows.make_summed_rows.Given as goal

-- the results so far, and those of the rows that are left; the sums begin no later than these rows
abbrev pub invariant-rows : goal.invariant-rows
invariant-rows g l =
    let tv = g.T.Scalar.value in
    let made = made_at (is_wanted l.wanted.among l.wanted.names.now) (g.R.RowRule.gives l.rule) (decoded l.lists.entries) in
    record {
      k : l.k ≤ l.place;
      before : (j : ℕ) → l.place ≤ j → j < length l.starts → l.from ≤ get_or l.starts j 0;
      within : l.upto ≤ length l.columns;
      room : l.upto < l.from + length l.sums;
      sums : AreSums g.M.MonoidOver.monoid tv (g.R.SumRule.adds l.rule) l.columns l.values l.from l.upto l.sums;
      so_far : first_entries tv l.k l.indices l.results ++ map_on (drop l.place l.rows) made ≡ map_on l.rows made;
    }
