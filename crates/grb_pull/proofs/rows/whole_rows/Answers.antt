use Rattle.std.proofs.Common.{◌≡◌, length, arith, ap, sym, ◌∙◌}
use Rattle.std.specs.Vec.{with_items}
use Rattle.std.proofs.lemmas.List.{with_items_is}
use Rattle.grb_core.specs.Results.{each_row}
use Rattle.grb_kernels.specs.Typed.{entries_of}
use Rattle.grb_lists.specs.Cells.{decoded}
use Rattle.grb_push.specs.Wanted.{is_wanted}
use Rattle.grb_pull.proofs.WantedRows.{wanted_rising}
use Rattle.grb_pull.proofs.WholeRows.{rows_copied}
use Rattle.grb_pull.proofs.rows.whole_rows.Goals as goal

pub returns : goal.returns
returns g c =
    let tv = g.T.Scalar.value in
    let kept = c.in_ok-values.values in
    let results = c.write_values.new.results in
    let long : length results ≡ kept.len = omega (arith, c.write_values.auto.results, ap length c.as_mut_slice.ensures.value) in
    rows_copied tv (is_wanted c.args.wanted.now.among c.args.wanted.now.names.now) c.in_ok-indices.indices.items c.rows-rows.result.now c.args.lists.now.rows (with_items kept results).items results
    (each_row (g.R.RowRule.gives c.args.rule.now) (decoded c.args.lists.now.entries)) c.in_ok-indices.ensures.items c.rows-rows.ensures.list (with_items_is kept results long) c.write_values.ensures
    (c.is_all.ensures c.if-not-is_all.false)

pub invariant_of-result : goal.invariant_of-result
invariant_of-result g c =
    let tv = g.T.Scalar.value in
    let rows = c.rows-rows.result.now in
    let kept = c.in_ok-values.values in
    let results = c.write_values.new.results in
    let long : length results ≡ kept.len = omega (arith, c.write_values.auto.results, ap length c.as_mut_slice.ensures.value) in
    record {
      same = ap length c.in_ok-indices.ensures.items
          ∙ (let same : length rows ≡ length results = omega (arith, long, c.in_ok-values.ensures.len) in same)
          ∙ sym (ap length (with_items_is kept results long));
      rising = wanted_rising (is_wanted c.args.wanted.now.among c.args.wanted.now.names.now) (g.R.RowRule.gives c.args.rule.now) (decoded c.args.lists.now.entries)
          (entries_of tv c.in_ok-indices.indices.items (with_items kept results).items)
          (rows_copied tv (is_wanted c.args.wanted.now.among c.args.wanted.now.names.now) c.in_ok-indices.indices.items c.rows-rows.result.now c.args.lists.now.rows (with_items kept results).items results
          (each_row (g.R.RowRule.gives c.args.rule.now) (decoded c.args.lists.now.entries)) c.in_ok-indices.ensures.items c.rows-rows.ensures.list (with_items_is kept results long) c.write_values.ensures
          (c.is_all.ensures c.if-not-is_all.false));
    }
