use Rattle.std.proofs.Common.{rules, List, ◌≡◌, ◌≤◌, ◌+◌, ◌<◌, ℕ, [], ◌∷◌, ◌++◌, length, take, drop, refl, sym, ap, subst, ◌∙◌, arith, get_or}
use Rattle.std.proofs.lemmas.List.{length-take-le}
use Rattle.grb_kernels.specs.Typed.{entries_of}
use Rattle.grb_lists.specs.Cells.{decoded}
use Rattle.grb_ewise.specs.Rows.{flat_entries}
use Rattle.grb_ewise.proofs.RowEntries.{holds}
use Rattle.grb_ewise.proofs.MatrixRows.{rows_from-all}
use Rattle.grb_ewise.proofs.RowMerges.{turn, stands, one_goes_on, at_one, filled, filling_begins, filling_ends, merged_in_order, written_at, length-written, fit-written}
use Rattle.grb_ewise.proofs.rows.fill_rows.Goals as goal

pub merging-init : goal.merging-init
merging-init g c =
    let a = c.args.a.now.lists.now in
    let b = c.args.b.now.lists.now in
    record {
      rows_len = omega (arith, c.args.rows.now.ok.0, ap length c.requires.no_rows);
      starts_len = omega (arith, c.args.starts.now.ok.0, ap length c.requires.no_starts);
      rows_capacity = search rules;
      starts_capacity = search rules;
      within = omega arith;
      same = ap length c.requires.no_values ∙ sym (ap length c.requires.no_columns);
      clear = c.requires.clear;
      laid = c.requires.laid;
      filling = filling_begins g.T.Scalar.value (g.R.Rule.gives c.args.rule.now) (g.met.R.Rule.none c.args.rule.now) (decoded a.entries) (decoded b.entries) a.rows b.rows
          c.args.rows.now.items c.args.starts.now.items (take 0 c.args.columns.now.items) (take 0 c.args.values.now.items)
          (rows_from-all (decoded a.entries) (holds _ c.args.a.now.ordered) a.rows c.rows-rows_a.ensures.rise c.rows-rows_a.ensures.all)
          (rows_from-all (decoded b.entries) (holds _ c.args.b.now.ordered) b.rows c.rows-rows_b.ensures.rise c.rows-rows_b.ensures.all)
          c.requires.no_rows c.requires.no_starts refl refl;
    }

pub merging-preserved : goal.merging-preserved
merging-preserved g c =
    let a = c.args.a.now.lists.now in
    let b = c.args.b.now.lists.now in
    let tv = g.T.Scalar.value in
    let uv = g.U.Scalar.value in
    let before = c.merging.invariant in
    let held = before.filling in
    let i = c.merging.i in
    let j = c.merging.j in
    let p = c.number_at-p.result in
    let q = c.number_at-q.result in
    let is_a = c.rows-rows_a.ensures.list in
    let is_b = c.rows-rows_b.ensures.list in
    let number_a : i < length a.rows → p ≡ get_or a.rows i 0 = subst (λ (s : List ℕ). i < length s → p ≡ get_or s i 0) is_a c.number_at-p.ensures.number in
    let number_b : j < length b.rows → q ≡ get_or b.rows j 0 = subst (λ (s : List ℕ). j < length s → q ≡ get_or s j 0) is_b c.number_at-q.ensures.number in
    let fits_a : i < length a.rows → p < 4294967296 = subst (λ (s : List ℕ). i < length s → p < 4294967296) is_a c.number_at-p.ensures.fits in
    let fits_b : j < length b.rows → q < 4294967296 = subst (λ (s : List ℕ). j < length s → q < 4294967296) is_b c.number_at-q.ensures.fits in
    let past_a : length a.rows ≤ i → p ≡ 4294967296 = subst (λ (s : List ℕ). length s ≤ i → p ≡ 4294967296) is_a c.number_at-p.ensures.past in
    let past_b : length b.rows ≤ j → q ≡ 4294967296 = subst (λ (s : List ℕ). length s ≤ j → q ≡ 4294967296) is_b c.number_at-q.ensures.past in
    let going : i + j < length a.rows + length b.rows = omega (arith, c.merging-test.true, ap length is_a, ap length is_b) in
    let here = c.is_upto.ensures in
    let there = c.is_upto-in-merging.ensures in
    let r = c.lower.result in
    let x = c.take_row-next_i.result.0 in
    let y = c.take_row-next_j.result.0 in
    let ex = entries_of tv x.indices.now x.values.now in
    let ey = entries_of uv y.indices.now y.values.now in
    let at_x = stands c.is_upto.result i j p q (length a.rows) (length b.rows) going held.right past_a fits_b here.upto in
    let at_y = stands c.is_upto-in-merging.result j i q p (length b.rows) (length a.rows) (omega (arith, going)) held.left past_b fits_a there.upto in
    let turn_a = turn (decoded a.entries) a.rows c.rows-rows_a.ensures.rise i c.take_row-next_i.result.1 r ex c.is_upto.result p q held.left at_x number_a here.upto here.above
    c.lower.ensures.left c.lower.ensures.right c.take_row-next_i.ensures.row c.take_row-next_i.ensures.on
    (λ t. ap (λ (s : List ℕ). entries_of tv s x.values.now) (c.take_row-next_i.ensures.none t)) c.take_row-next_i.ensures.stays in
    let turn_b = turn (decoded b.entries) b.rows c.rows-rows_b.ensures.rise j c.take_row-next_j.result.1 r ey c.is_upto-in-merging.result q p held.right at_y number_b there.upto there.above
    c.lower.ensures.right c.lower.ensures.left c.take_row-next_j.ensures.row c.take_row-next_j.ensures.on
    (λ t. ap (λ (s : List ℕ). entries_of uv s y.values.now) (c.take_row-next_j.ensures.none t)) c.take_row-next_j.ensures.stays in
    let pushed = c.push_row.ensures in
    let goes_on = one_goes_on c.is_upto.result c.is_upto-in-merging.result i j c.take_row-next_i.result.1 c.take_row-next_j.result.1 p q here.above there.above
    c.take_row-next_i.ensures.on c.take_row-next_i.ensures.stays c.take_row-next_j.ensures.on c.take_row-next_j.ensures.stays in
    let made = c.in_ok-count.ensures in
    let k = c.merging.k in
    let n = c.in_ok-count.count in
    let columns = c.merging.columns.items in
    let values = c.merging.values.items in
    let columns2 = c.append_row.new.columns.items in
    let values2 = c.append_row.new.values.items in
    let long : k + n ≤ length values2 = omega (arith, made.within, made.same) in
    let here_starts : k ≡ length (take k columns) = sym (length-take-le k columns before.within) in
    record {
      rows_len = omega (arith, pushed.rows_most, before.rows_len, goes_on);
      starts_len = omega (arith, pushed.starts_most, before.starts_len, goes_on);
      rows_capacity = pushed.rows_capacity ∙ before.rows_capacity;
      starts_capacity = pushed.starts_capacity ∙ before.starts_capacity;
      within = made.within;
      same = made.same;
      clear = c.append_row.ensures.clear;
      laid = made.laid;
      filling = filled tv (g.R.Rule.gives c.args.rule.now) (g.met.R.Rule.none c.args.rule.now) (decoded a.entries) (decoded b.entries) a.rows b.rows _
          i j c.take_row-next_i.result.1 c.take_row-next_j.result.1 n r
          c.merging.rows.items c.merging.starts.items c.push_row.new.rows.items c.push_row.new.starts.items
          (take k columns) (take (k + n) columns2) (take n (drop k columns2)) (take k values) (take (k + n) values2) (take n (drop k values2)) ex ey
          held turn_a turn_b
          (written_at k n columns columns2 made.columns_before) (written_at k n values values2 made.values_before)
          (length-written k n columns2 made.within) (length-written k n values2 long) made.entries
          (fit-written k n columns2 made.within made.fit)
          (at_one a.rows b.rows i j p q r c.is_upto.result c.is_upto-in-merging.result going held.left held.right number_a fits_a past_a number_b fits_b past_b here.upto here.above there.upto there.above c.lower.ensures.left c.lower.ensures.right)
          pushed.rows_pushed (λ l. pushed.starts_pushed l ∙ ap (λ n. c.merging.starts.items ++ n ∷ []) here_starts) pushed.rows_same pushed.starts_same;
    }

pub returns-clause-entries : goal.returns-clause-entries
returns-clause-entries g c =
    let a = c.args.a.now.lists.now in
    let b = c.args.b.now.lists.now in
    let tv = g.T.Scalar.value in
    let columns = take c.merging.k c.merging.columns.items in
    let past : length a.rows + length b.rows ≤ c.merging.i + c.merging.j = omega (arith, c.merging-test.false, ap length c.rows-rows_a.ensures.list, ap length c.rows-rows_b.ensures.list) in
    ap (λ (s : List ℕ). flat_entries tv c.merging.rows.items c.merging.starts.items s c.truncate-2.new.self.items) c.truncate.ensures.items
    ∙ ap (flat_entries tv c.merging.rows.items c.merging.starts.items columns) c.truncate-2.ensures.items
    ∙ filling_ends tv (g.R.Rule.gives c.args.rule.now) (g.met.R.Rule.none c.args.rule.now) (decoded a.entries) (decoded b.entries) a.rows b.rows
    c.merging.rows.items c.merging.starts.items columns (take c.merging.k c.merging.values.items) _ c.merging.i c.merging.j c.merging.invariant.filling past

pub returns-clause-ordered : goal.returns-clause-ordered
returns-clause-ordered g c =
    merged_in_order (g.R.Rule.gives c.args.rule.now) (decoded c.args.a.now.lists.now.entries) (decoded c.args.b.now.lists.now.entries) _ (returns-clause-entries g c)
