use Rattle.std.proofs.Common.{rules, ◌∙◌, ◌+◌, [], ◌∷◌, ◌++◌, length, get_or, refl, sym, ap, arith}
use Rattle.grb_ewise.proofs.RowEntries.{holds}
use Rattle.grb_kernels.proofs.Lists.{first-all}
use Rattle.grb_maps.specs.Placed.{placed}
use Rattle.grb_maps.proofs.Placing.{indices-rise, placing_begins, placing_on}
use Rattle.grb_maps.proofs.diagonal.fill_diagonal.Goals as goal

pub entries-init : goal.entries-init
entries-init g c =
    record {
      rows_len = omega (arith, c.args.rows.now.ok.0, ap length c.requires.no_rows);
      starts_len = omega (arith, c.args.starts.now.ok.0, ap length c.requires.no_starts);
      columns_len = omega (arith, c.args.columns.now.ok.0, ap length c.requires.no_columns);
      values_len = omega (arith, c.args.values.now.ok.0, ap length c.requires.no_values);
      rows_capacity = search rules;
      starts_capacity = search rules;
      columns_capacity = search rules;
      values_capacity = search rules;
      placing = placing_begins g.T.Scalar.value c.args.down c.args.up c.args.entries.now.indices.now c.args.entries.now.values.now
          c.args.rows.now.items c.args.starts.now.items c.args.columns.now.items c.args.values.now.items
          c.requires.no_rows c.requires.no_starts c.requires.no_columns c.requires.no_values;
    }

pub entries-preserved : goal.entries-preserved
entries-preserved g c =
    let tv = g.T.Scalar.value in
    let js = c.args.entries.now.indices.now in
    let vs = c.args.entries.now.values.now in
    let at = c.entries.at in
    let before = c.entries.invariant in
    let rows = c.push_reserved.ensures in
    let starts = c.push_reserved-in-entries.ensures in
    let columns = c.push_reserved-in-entries-2.ensures in
    let values = c.push_reserved-in-entries-3.ensures in
    record {
      rows_len = omega (arith, rows.len, before.rows_len);
      starts_len = omega (arith, starts.len, before.starts_len);
      columns_len = omega (arith, columns.len, before.columns_len);
      values_len = omega (arith, values.len, before.values_len);
      rows_capacity = rows.capacity ∙ before.rows_capacity;
      starts_capacity = starts.capacity ∙ before.starts_capacity;
      columns_capacity = columns.capacity ∙ before.columns_capacity;
      values_capacity = values.capacity ∙ before.values_capacity;
      placing = placing_on tv c.args.down c.args.up js vs (indices-rise tv js vs c.args.entries.now.same (holds _ c.args.entries.now.rising)) c.args.entries.now.same
          at (get_or js at 0 + c.args.down) at (get_or js at 0 + c.args.up) c.index-entries-at.result
          c.entries.rows.items c.entries.starts.items c.entries.columns.items
          c.push_reserved.new.self.items c.push_reserved-in-entries.new.self.items c.push_reserved-in-entries-2.new.self.items
          c.entries.values.items c.push_reserved-in-entries-3.new.self.items
          before.placing c.entries-test.true c.index-entries-at.is refl refl refl (c.requires.columns_fit at 0 c.entries-test.true)
          rows.items starts.items columns.items (values.items ∙ ap (λ w. c.entries.values.items ++ w ∷ []) (sym c.index-entries-at.is));
    }

pub returns-clause-entries : goal.returns-clause-entries
returns-clause-entries g c =
    c.entries.invariant.placing.so_far
    ∙ ap (placed c.args.down c.args.up) (first-all g.T.Scalar.value c.args.entries.now.indices.now c.args.entries.now.values.now c.entries.at c.entries-test.false c.args.entries.now.same)
