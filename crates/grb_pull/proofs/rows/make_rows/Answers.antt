use Rattle.std.proofs.Common.{◌≡◌, ℕ, ◌+◌, ◌<◌, Bool, List, arith, cond, sym, ap, subst, ◌∙◌, get_or, length, take, drop}
use Rattle.std.specs.Prelude.{None}
use Rattle.grb_core.specs.Entries.{VectorEntries, map_on}
use Rattle.grb_core.specs.Results.{row_of}
use Rattle.grb_kernels.specs.Typed.{kept, entries_of, first_entries}
use Rattle.grb_lists.specs.Cells.{decoded, in_row}
use Rattle.grb_push.specs.Wanted.{is_wanted}
use Rattle.grb_sums.proofs.RowByRow.{row_step}
use Rattle.grb_pull.proofs.RowLists.{columns_long, row_lists}
use Rattle.grb_pull.proofs.WantedRows.{made_at, wanted_rows, wanted_rising}
use Rattle.grb_pull.proofs.rows.make_rows.Goals as goal

pub rows-preserved : goal.rows-preserved
rows-preserved g c =
    let tv = g.T.Scalar.value in
    let f = g.R.RowRule.gives c.args.rule.now in
    let m = c.args.lists.now.entries in
    let wanted : ℕ → Bool = is_wanted c.args.wanted.now.among c.args.wanted.now.names.now in
    let rows = c.rows-rows.result.now in
    let place = c.rows.place in
    let starts = c.starts-starts.result.now in
    let cs = c.columns-columns.result.now in
    let vs = c.of_lists-values.result.now in
    let start = get_or starts place 0 in
    let i = get_or rows place 0 in
    let inside : place < length c.args.lists.now.rows = subst (λ (ks : List ℕ). place < length ks) c.rows-rows.ensures.list c.rows-test.true in
    let row : entries_of tv (drop start (take c.end_of-end.result cs)) (drop start (take c.end_of-end.result vs)) ≡ row_of i (decoded m) =
    row_lists tv cs vs m c.columns-columns.ensures.columns c.of_lists-values.ensures start c.end_of-end.result
    ∙ ap (λ e. in_row (drop start (take e m))) (c.end_of-end.ensures.is ∙ ap (get_or starts (place + 1)) (columns_long cs m c.columns-columns.ensures.columns))
    ∙ sym (c.starts-starts.ensures.spans place inside)
    ∙ ap (λ (ks : List ℕ). row_of (get_or ks place 0) (decoded m)) (sym c.rows-rows.ensures.list) in
    record {
      k = omega (arith, c.emit-k.ensures.most, c.rows.invariant.k);
      from = c.wants-wants.ensures.within;
      passed = λ q l j n h.
          let below = c.wants-wants.ensures.below q l in
          let above : i < get_or rows j 0 = subst (λ (ks : List ℕ). (p k : ℕ) → p < k → k < length ks → get_or ks p 0 < get_or ks k 0) (sym c.rows-rows.ensures.list) c.rows-rows.ensures.rise place j (omega (arith, n)) h in
          omega (arith, below, above);
      so_far = row_step (made_at wanted f (decoded m)) rows place (kept (tv c.made_of-value.result.0) c.made_of-value.result.1)
          (first_entries tv c.rows.k c.rows.indices c.rows.results) (first_entries tv c.emit-k.result c.emit-k.new.columns c.emit-k.new.values)
          (map_on rows (made_at wanted f (decoded m))) c.rows-test.true c.rows.invariant.so_far
          (c.made_of-value.ensures
          ∙ ap (λ b. cond b (f (entries_of tv (drop start (take c.end_of-end.result cs)) (drop start (take c.end_of-end.result vs)))) None) c.wants-wants.ensures.wanted
          ∙ ap (λ (x : VectorEntries). cond (wanted i) (f x) None) row)
          c.emit-k.ensures.first;
    }

pub returns-clause-entries : goal.returns-clause-entries
returns-clause-entries g c =
    let tv = g.T.Scalar.value in
    wanted_rows (is_wanted c.args.wanted.now.among c.args.wanted.now.names.now) (g.R.RowRule.gives c.args.rule.now) (decoded c.args.lists.now.entries)
    (g.met.R.RowRule.none c.args.rule.now) c.rows-rows.result.now c.args.lists.now.rows c.rows.place (first_entries tv c.rows.k c.rows.indices c.rows.results)
    c.rows-rows.ensures.list c.rows-rows.ensures.rise c.rows-rows.ensures.all (omega (arith, c.rows-test.false)) c.rows.invariant.so_far

pub returns-clause-rising : goal.returns-clause-rising
returns-clause-rising g c =
    let tv = g.T.Scalar.value in
    wanted_rising (is_wanted c.args.wanted.now.among c.args.wanted.now.names.now) (g.R.RowRule.gives c.args.rule.now) (decoded c.args.lists.now.entries)
    (first_entries tv c.rows.k c.rows.indices c.rows.results) (returns-clause-entries g c)
