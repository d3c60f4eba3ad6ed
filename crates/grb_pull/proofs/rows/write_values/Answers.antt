use Rattle.std.proofs.Common.{◌≡◌, ℕ, ◌+◌, ◌<◌, ◌≤◌, List, true, sym, ap, subst, ◌∙◌, get_or, length, take, drop, set, refl}
use Rattle.std.specs.Prelude.{Some}
use Rattle.grb_core.specs.Entries.{map_on}
use Rattle.grb_core.specs.Results.{row_of, each_row}
use Rattle.grb_kernels.specs.Typed.{entries_of, first_entries}
use Rattle.grb_kernels.proofs.Lists.{first-all}
use Rattle.grb_lists.specs.Cells.{decoded, in_row}
use Rattle.grb_sums.proofs.RowByRow.{row_step}
use Rattle.grb_pull.proofs.RowLists.{columns_long, row_lists}
use Rattle.grb_pull.proofs.WantedRows.{made_at, wanted_rows}
use Rattle.grb_pull.proofs.WholeRows.{value_written, restricted_all}
use Rattle.grb_pull.proofs.rows.write_values.Goals as goal

pub rows-preserved : goal.rows-preserved
rows-preserved g c =
    let tv = g.T.Scalar.value in
    let f = g.R.RowRule.gives c.args.rule.now in
    let m = c.args.lists.now.entries in
    let rows = c.args.lists.now.rows in
    let place = c.rows.place in
    let starts = c.starts-starts.result.now in
    let cs = c.columns-columns.result.now in
    let vs = c.of_lists-values.result.now in
    let start = get_or starts place 0 in
    let end = c.end_of-end.result in
    let x = c.value.result in
    let inside : place < length rows = subst (λ (ks : List ℕ). place < length ks) c.rows-rows.ensures.list c.rows-test.true in
    let same : length rows ≡ length c.rows.results = sym c.requires.room ∙ sym c.rows.auto.results in
    let row : entries_of tv (drop start (take end cs)) (drop start (take end vs)) ≡ row_of (get_or rows place 0) (decoded m) =
    row_lists tv cs vs m c.columns-columns.ensures.columns c.of_lists-values.ensures start end
    ∙ ap (λ e. in_row (drop start (take e m))) (c.end_of-end.ensures.is ∙ ap (get_or starts (place + 1)) (columns_long cs m c.columns-columns.ensures.columns))
    ∙ sym (c.starts-starts.ensures.spans place inside) in
    row_step (made_at (λ q. true) f (decoded m)) rows place (Some (tv x)) (first_entries tv place rows c.rows.results) (first_entries tv (place + 1) rows (set c.rows.results place x))
    (map_on rows (made_at (λ q. true) f (decoded m))) inside c.rows.invariant (c.value.ensures ∙ ap f row)
    (value_written tv rows c.rows.results place x inside same)

pub returns : goal.returns
returns g c =
    let tv = g.T.Scalar.value in
    let f = g.R.RowRule.gives c.args.rule.now in
    let a = decoded c.args.lists.now.entries in
    let rows = c.args.lists.now.rows in
    let results = c.rows.results in
    let place = c.rows.place in
    let past : length rows ≤ place = subst (λ (ks : List ℕ). length ks ≤ place) c.rows-rows.ensures.list c.rows-test.false in
    let same : length rows ≡ length results = sym c.requires.room ∙ sym c.rows.auto.results in
    sym (first-all tv rows results place past same)
    ∙ wanted_rows (λ q. true) f a (g.met.R.RowRule.none c.args.rule.now) rows rows place (first_entries tv place rows results)
    refl c.rows-rows.ensures.rise c.rows-rows.ensures.all past c.rows.invariant
    ∙ restricted_all (λ q. true) (λ q. refl) (each_row f a)
