use Rattle.std.proofs.Common.{◌++◌, length}
use Rattle.grb_core.specs.Entries.{VectorEntries}
use Rattle.grb_kernels.specs.Typed.{first_entries}
use Rattle.grb_sums.specs.Bits.{AreMarked}
use Rattle.grb_sums.specs.ColumnSums.{AreSums, with_values}
use Rattle.grb_sums.proofs.column_sums.add_entries.Given as goal

-- the entries so far are added
abbrev pub invariant-entries : goal.invariant-entries
invariant-entries g l =
    let tv = g.T.Scalar.value in
    let names = g.C.Columns.names l.columns in
    record {
      marked : AreMarked (length names) l.words l.sums;
      added : (added : VectorEntries) → AreSums tv g.M.MonoidOver.monoid names added l.fn.words l.fn.sums
          → AreSums tv g.M.MonoidOver.monoid names (added ++ with_values (g.R.Term.gives l.term) (first_entries tv l.i l.indices l.values)) l.words l.sums;
    }
