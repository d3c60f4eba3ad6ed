use Rattle.std.proofs.Common.{◌≡◌, arith, map}
use Rattle.grb_core.specs.Entries.{values_of}
use Rattle.grb_core.specs.Results.{row_of}
use Rattle.grb_lists.specs.Cells.{decoded}
use Rattle.grb_ewise.proofs.Lent.{lent, lent-same, lent-rising}
use Rattle.grb_ewise.proofs.RowEntries.{row_in_order}
use Rattle.grb_sums.proofs.RowSpans.{columns-long, values-long, row-columns, row-values}
use Rattle.grb_mxm.proofs.masked_rows.row_numbered.Goals as goal

pub part-requires-clause-within : goal.part-requires-clause-within
part-requires-clause-within g c = omega (arith, c.span_of-start.ensures.within, columns-long c.columns.result.now c.args.rows.now.lists.now.entries c.columns.ensures.columns)

pub part-requires-2-clause-within : goal.part-requires-2-clause-within
part-requires-2-clause-within g c = omega (arith, c.span_of-start.ensures.within, values-long g.T.Scalar.value c.of_lists.result.now c.args.rows.now.lists.now.entries c.of_lists.ensures)

pub invariant_of-result : goal.invariant_of-result
invariant_of-result g c =
    let tv = g.T.Scalar.value in
    let lists = c.args.rows.now.lists.now in
    let span = c.span_of-start in
    let row = row_of c.args.number (decoded lists.entries) in
    let keys = row-columns c.columns.result.now c.part.result.now lists.entries row span.result.0 span.result.1 c.columns.ensures.columns c.part.ensures span.ensures.row in
    let values : map tv c.part-2.result.now ≡ values_of row = row-values tv c.of_lists.result.now c.part-2.result.now lists.entries row span.result.0 span.result.1 c.of_lists.ensures c.part-2.ensures span.ensures.row in
    record {
      same = lent-same tv c.part.result.now c.part-2.result.now row keys values;
      rising = lent-rising tv c.part.result.now c.part-2.result.now row keys values (row_in_order _ (decoded lists.entries) c.args.rows.now.ordered);
    }

pub returns : goal.returns
returns g c =
    let tv = g.T.Scalar.value in
    let lists = c.args.rows.now.lists.now in
    let span = c.span_of-start in
    let row = row_of c.args.number (decoded lists.entries) in
    lent tv c.part.result.now c.part-2.result.now row
    (row-columns c.columns.result.now c.part.result.now lists.entries row span.result.0 span.result.1 c.columns.ensures.columns c.part.ensures span.ensures.row)
    (row-values tv c.of_lists.result.now c.part-2.result.now lists.entries row span.result.0 span.result.1 c.of_lists.ensures c.part-2.ensures span.ensures.row)
