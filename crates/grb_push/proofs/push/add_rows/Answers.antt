use Rattle.std.proofs.Common.{◌++◌, take, get_or, arith, sym, ap, subst, ◌∙◌}
use Rattle.grb_core.specs.Entries.{VectorEntries}
use Rattle.grb_core.specs.Results.{row_of}
use Rattle.grb_ewise.proofs.Lent.{lent}
use Rattle.grb_lists.specs.Cells.{decoded}
use Rattle.grb_sums.specs.ColumnSums.{AreSums, as_entries, with_values}
use Rattle.grb_push.specs.Pushes.{pushed, at_numbers}
use Rattle.grb_push.proofs.Pushing.{pushed-read, pushed-all}
use Rattle.grb_push.proofs.push.add_rows.Goals as goal

pub rows-preserved : goal.rows-preserved
rows-preserved g c =
    let tv = g.T.Scalar.value in
    let f = g.S.Side.makes g.O.Operator.op in
    let names = g.C.Columns.names c.args.columns.now in
    let rows = c.args.lists.now.rows in
    let a = decoded c.args.lists.now.entries in
    let picks = c.args.picks.now in
    let pick = c.index-picks-i.result in
    let before = pushed f (at_numbers rows (as_entries tv (take c.rows.i picks))) a in
    let added = c.add_entries.ensures.added before c.rows.invariant.added in
    let row = lent tv c.row_columns.result.now c.of_row.result.now (row_of (get_or rows pick.0 0) a) c.row_columns.ensures.columns c.of_row.ensures in
    record {
      marked = c.add_entries.ensures.marked;
      added = subst (λ (x : VectorEntries). AreSums tv g.M.MonoidOver.monoid names x c.add_entries.new.words c.add_entries.new.sums)
          (ap (λ (m : VectorEntries). before ++ with_values (f (tv pick.1)) m) row ∙ sym (pushed-read tv f rows picks a c.rows.i pick (omega arith) c.index-picks-i.is)) added;
    }

pub returns-clause-added : goal.returns-clause-added
returns-clause-added g c =
    subst (λ (x : VectorEntries). AreSums g.T.Scalar.value g.M.MonoidOver.monoid (g.C.Columns.names c.args.columns.now) x c.rows.words c.rows.sums)
    (pushed-all g.T.Scalar.value (g.S.Side.makes g.O.Operator.op) c.args.lists.now.rows c.args.picks.now (decoded c.args.lists.now.entries) c.rows.i (omega (arith, c.rows-test.false)))
    c.rows.invariant.added
