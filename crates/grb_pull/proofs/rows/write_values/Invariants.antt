use Rattle.std.proofs.Common.{◌≡◌, ◌++◌, drop, true}
use Rattle.grb_core.specs.Entries.{map_on}
use Rattle.grb_kernels.specs.Typed.{first_entries}
use Rattle.grb_lists.specs.Cells.{decoded}
use Rattle.grb_pull.proofs.WantedRows.{made_at}
use Rattle.grb_pull.proofs.rows.write_values.Given as goal

-- the values so far, and those of the rows that are left
abbrev pub invariant-rows : goal.invariant-rows
invariant-rows g l =
    let made = made_at (λ q. true) (g.R.RowRule.gives l.rule) (decoded l.lists.entries) in
    first_entries g.T.Scalar.value l.place l.lists.rows l.results ++ map_on (drop l.place l.lists.rows) made ≡ map_on l.lists.rows made
