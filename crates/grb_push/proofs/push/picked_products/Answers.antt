use Rattle.std.proofs.Common.{◌≡◌, ◌++◌, take, get_or, arith, sym, ap, ◌∙◌}
use Rattle.grb_core.specs.Entries.{VectorEntries}
use Rattle.grb_core.specs.Results.{row_of}
use Rattle.grb_kernels.specs.Typed.{entries_of}
use Rattle.grb_ewise.proofs.Lent.{lent}
use Rattle.grb_lists.specs.Cells.{decoded}
use Rattle.grb_sums.specs.ColumnSums.{as_entries, with_values}
use Rattle.grb_push.specs.Pushes.{pushed, at_numbers}
use Rattle.grb_push.proofs.Pushing.{pushed-read, pushed-all}
use Rattle.grb_push.proofs.push.picked_products.Goals as goal

pub picks-preserved : goal.picks-preserved
picks-preserved g c =
    let tv = g.T.Scalar.value in
    let f = g.S.Side.makes g.O.Operator.op in
    let rows = c.args.lists.now.rows in
    let a = decoded c.args.lists.now.entries in
    let picks = c.args.picks.now in
    let pick = c.index-picks-i.result in
    let before = pushed f (at_numbers rows (as_entries tv (take c.picks.i picks))) a in
    let row = lent tv c.row_columns-columns.result.now c.of_row.result.now (row_of (get_or rows pick.0 0) a) c.row_columns-columns.ensures.columns c.of_row.ensures in
    let so_far : as_entries tv c.reserve.new.self.items ≡ before = ap (as_entries tv) c.reserve.ensures.items ∙ c.picks.invariant.pushed in
    record {
      of_domain = c.push_row.ensures.of_domain;
      pushed = c.push_row.ensures.added
          ∙ ap (λ (m : VectorEntries). m ++ with_values (f (tv pick.1)) (entries_of tv c.row_columns-columns.result.now c.of_row.result.now)) so_far
          ∙ ap (λ (m : VectorEntries). before ++ with_values (f (tv pick.1)) m) row
          ∙ sym (pushed-read tv f rows picks a c.picks.i pick (omega arith) c.index-picks-i.is);
    }

pub returns-clause-pushed : goal.returns-clause-pushed
returns-clause-pushed g c =
    c.picks.invariant.pushed
    ∙ pushed-all g.T.Scalar.value (g.S.Side.makes g.O.Operator.op) c.args.lists.now.rows c.args.picks.now (decoded c.args.lists.now.entries) c.picks.i (omega (arith, c.picks-test.false))
