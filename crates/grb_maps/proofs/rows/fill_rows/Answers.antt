use Rattle.std.proofs.Common.{rules, List, ◌≡◌, ◌≤◌, ◌+◌, ◌<◌, ℕ, [], ◌∷◌, ◌++◌, length, take, drop, ap, refl, sym, ◌∙◌, arith, get_or}
use Rattle.std.proofs.lemmas.List.{length-drop, length-take-le}
use Rattle.grb_core.specs.Entries.{VectorEntries}
use Rattle.grb_core.specs.Results.{row_of}
use Rattle.grb_kernels.specs.Typed.{entries_of}
use Rattle.grb_lists.specs.Cells.{decoded}
use Rattle.grb_lists.proofs.CellCodes.{length-decoded}
use Rattle.grb_ewise.proofs.RowEntries.{holds}
use Rattle.grb_ewise.proofs.MatrixRows.{rows_from-all}
use Rattle.grb_ewise.proofs.RowMerges.{fit-written, written_at}
use Rattle.grb_core.specs.Each.{each_made}
use Rattle.grb_core.proofs.Each.{each-same}
use Rattle.grb_maps.proofs.Pushing.{making_on, making_begins, making_ends, length-front, length-entries}
use Rattle.grb_maps.proofs.rows.fill_rows.Goals as goal

pub each-init : goal.each-init
each-init g c =
    let a = c.args.a.now in
    let whole = rows_from-all (decoded a.entries) (holds _ c.requires.ordered) a.rows c.rows-numbers.ensures.rise c.rows-numbers.ensures.all in
    record {
      rows_len = omega (arith, c.args.rows.now.ok.0, ap length c.requires.no_rows);
      starts_len = omega (arith, c.args.starts.now.ok.0, ap length c.requires.no_starts);
      rows_capacity = search rules;
      starts_capacity = search rules;
      room = omega (arith, ap length whole, length-decoded a.entries);
      making = making_begins g.T.Scalar.value (g.E.Each.row_gives c.args.each.now) (decoded a.entries) a.rows
          c.args.rows.now.items c.args.starts.now.items [] [] whole c.requires.no_rows c.requires.no_starts refl refl;
    }

pub make_after-count-requires-clause-room : goal.make_after-count-requires-clause-room
make_after-count-requires-clause-room g c =
    let a = c.args.a.now in
    let k = c.each.k in
    let is_list = c.rows-numbers.ensures.list in
    let at : k < length a.rows = omega (arith, c.each-test.true, ap length is_list) in
    let row = c.row_between-row.result in
    let long : length row.indices.now ≡ length (row_of (get_or a.rows k 0) (decoded a.entries)) =
    sym (length-entries g.T.Scalar.value row.indices.now row.values.now row.same) ∙ ap length c.row_between-row.ensures in
    let front = length-front (decoded a.entries) a.rows k at in
    omega (arith, c.each.invariant.room, long, front, c.requires.room, c.each.auto.columns)

pub each-preserved : goal.each-preserved
each-preserved g c =
    let a = c.args.a.now in
    let tv = g.T.Scalar.value in
    let gives = g.E.Each.row_gives c.args.each.now in
    let before = c.each.invariant in
    let k = c.each.k in
    let place = c.each.at in
    let count = c.make_after-count.result in
    let is_list = c.rows-numbers.ensures.list in
    let at : k < length a.rows = omega (arith, c.each-test.true, ap length is_list) in
    let r = get_or c.rows-numbers.result.now k 0 in
    let is_r : r ≡ get_or a.rows k 0 = ap (λ (s : List ℕ). get_or s k 0) is_list in
    let pushed = c.push_row.ensures in
    let made = c.make_after-count.ensures in
    let columns2 = c.make_after-count.new.columns in
    let values2 = c.make_after-count.new.values in
    let row = c.row_between-row.result in
    let row_is : entries_of tv row.indices.now row.values.now ≡ row_of r (decoded a.entries) =
    c.row_between-row.ensures ∙ ap (λ (n : ℕ). row_of n (decoded a.entries)) (sym is_r) in
    let long : length row.indices.now ≡ length (row_of (get_or a.rows k 0) (decoded a.entries)) =
    sym (length-entries tv row.indices.now row.values.now row.same) ∙ ap length c.row_between-row.ensures in
    let front = length-front (decoded a.entries) a.rows k at in
    let fits : place + count ≤ length columns2 =
    omega (arith, before.room, long, front, c.requires.room, c.each.auto.columns, c.make_after-count.auto.columns, made.most) in
    let fits_values : place + count ≤ length values2 = omega (arith, fits, c.make_after-count.auto.columns, c.make_after-count.auto.values, c.each.auto.columns, c.each.auto.values, c.requires.same) in
    let here_starts : place ≡ length (take place c.each.columns) = sym (length-take-le place c.each.columns (omega (arith, fits, c.make_after-count.auto.columns))) in
    let js_long : length (take count (drop place columns2)) ≡ count = let l = length-drop place columns2 in length-take-le count (drop place columns2) (omega (arith, l, fits)) in
    let ws_long : length (take count (drop place values2)) ≡ count = let l = length-drop place values2 in length-take-le count (drop place values2) (omega (arith, l, fits_values)) in
    record {
      rows_len = omega (arith, pushed.rows_most, before.rows_len);
      starts_len = omega (arith, pushed.starts_most, before.starts_len);
      rows_capacity = pushed.rows_capacity ∙ before.rows_capacity;
      starts_capacity = pushed.starts_capacity ∙ before.starts_capacity;
      room = omega (arith, before.room, long, front, made.most);
      making = making_on tv gives (decoded a.entries) a.rows
          c.rows-numbers.ensures.rise
          k count r
          c.each.rows.items c.each.starts.items c.push_row.new.rows.items c.push_row.new.starts.items
          (take place c.each.columns) (take (place + count) columns2) (take count (drop place columns2))
          (take place c.each.values) (take (place + count) values2) (take count (drop place values2))
          before.making at is_r
          (written_at place count c.each.columns columns2 made.columns_before) (written_at place count c.each.values values2 made.values_before)
          js_long ws_long
          (made.entries ∙ each-same _ (gives r) c.in_row-here.ensures _ ∙ ap (λ (m : VectorEntries). each_made (gives r) m) row_is)
          (fit-written place count columns2 fits made.fit)
          pushed.rows_pushed (λ l. pushed.starts_pushed l ∙ ap (λ n. c.each.starts.items ++ n ∷ []) here_starts) pushed.rows_same pushed.starts_same;
    }

pub returns-clause-flat : goal.returns-clause-flat
returns-clause-flat g c = c.each.invariant.making.flat

pub returns-clause-entries : goal.returns-clause-entries
returns-clause-entries g c =
    making_ends g.T.Scalar.value (g.E.Each.row_gives c.args.each.now) (decoded c.args.a.now.entries) c.args.a.now.rows
    c.each.k c.each.rows.items c.each.starts.items (take c.each.at c.each.columns) (take c.each.at c.each.values) c.each.invariant.making
    (omega (arith, c.each-test.false, ap length c.rows-numbers.ensures.list))
