use Rattle.std.proofs.Common.{◌≡◌, ◌≤◌, ◌<◌, ◌/◌, ℕ, length, get_or}
use Rattle.std.specs.Prelude.{None}
use Rattle.std.specs.Ordering.{nat_cmp}
use Rattle.std.specs.FinMap.{find}
use Rattle.grb_core.specs.Results.{row_of}
use Rattle.grb_lists.specs.Cells.{decoded}
use Rattle.grb_sums.specs.Naming.{name_in}
use Rattle.grb_sums.specs.Reach.{IsOutside}
use Rattle.grb_mxm.proofs.whole_rows.reached.Given as goal

-- the rows so far store nothing outside
abbrev pub invariant-entries : goal.invariant-entries
invariant-entries g l = record {
  within : l.upto ≤ l.tops;
  none : (k p : ℕ) → k < l.i → p < length l.b.names.now → IsOutside l.from l.upto (p / 4096) → find nat_cmp (name_in l.b.names.now p) (row_of (get_or l.columns k 0) (decoded l.b.lists.now.entries)) ≡ None;
}
