use Rattle.std.proofs.Common.{get_or}
use Rattle.grb_core.specs.Results.{row_of}
use Rattle.grb_lists.specs.Cells.{decoded}
use Rattle.grb_ewise.proofs.Lent.{lent, lent-same, lent-rising}
use Rattle.grb_ewise.proofs.RowEntries.{row_in_order}
use Rattle.grb_ewise.proofs.stored.Stored.row.Goals as goal

pub invariant_of-result : goal.invariant_of-result
invariant_of-result g c =
    let value = g.Self.Scalar.value in
    let lists = c.args.lists.now in
    let row = row_of (get_or lists.rows c.args.k 0) (decoded lists.entries) in
    record {
      same = lent-same value c.row_columns.result.now c.of_row.result.now row c.row_columns.ensures.columns c.of_row.ensures;
      rising = lent-rising value c.row_columns.result.now c.of_row.result.now row c.row_columns.ensures.columns c.of_row.ensures (row_in_order (get_or lists.rows c.args.k 0) (decoded lists.entries) c.requires.ordered);
    }

pub returns : goal.returns
returns g c =
    let lists = c.args.lists.now in
    lent g.Self.Scalar.value c.row_columns.result.now c.of_row.result.now (row_of (get_or lists.rows c.args.k 0) (decoded lists.entries)) c.row_columns.ensures.columns c.of_row.ensures
