use Rattle.std.proofs.Common.{length, take}
use Rattle.grb_lists.specs.Cells.{decoded}
use Rattle.grb_sums.specs.Bits.{AreMarked}
use Rattle.grb_sums.specs.ColumnSums.{AreSums, as_entries}
use Rattle.grb_push.specs.Pushes.{pushed, at_numbers}
use Rattle.grb_push.proofs.push.add_rows.Given as goal

-- the rows so far
abbrev pub invariant-rows : goal.invariant-rows
invariant-rows g l =
    let names = g.C.Columns.names l.columns in
    record {
      marked : AreMarked (length names) l.words l.sums;
      added : AreSums g.T.Scalar.value g.M.MonoidOver.monoid names
          (pushed (g.S.Side.makes g.O.Operator.op) (at_numbers l.lists.rows (as_entries g.T.Scalar.value (take l.i l.picks))) (decoded l.lists.entries))
          l.words l.sums;
    }
