use Rattle.std.proofs.Common.{[], ℕ, List, length, ap, sym, subst, ◌∙◌}
use Rattle.grb_sums.specs.Bits.{AreMarked}
use Rattle.grb_sums.specs.ColumnSums.{AreSums, column_folds}
use Rattle.grb_push.proofs.ByColumn.{lent_by_column, with_own_values}
use Rattle.grb_push.proofs.column_folds.fold_these_columns.Goals as goal

pub add_entries-requires-clause-marked : goal.add_entries-requires-clause-marked
add_entries-requires-clause-marked g c =
    let ws = c.as_mut_slice-words in
    let ss = c.as_mut_slice-sums in
    let n = length (g.C.Columns.names c.args.columns.now) in
    subst (λ (us : List ℕ). AreMarked n us ss.result.now) (sym ws.ensures.value)
    (subst (λ (vs : List g.row.T.Denot). AreMarked n c.in_ok-opened.opened.words.items vs) (sym ss.ensures.value)
    (subst (λ k. AreMarked k c.in_ok-opened.opened.words.items c.in_ok-opened.opened.sums.items) c.count.ensures c.in_ok-opened.ensures.marked))

pub returns : goal.returns
returns g c =
    let tv = g.T.Scalar.value in
    let m = g.M.MonoidOver.monoid in
    let names = g.C.Columns.names c.args.columns.now in
    let k = c.args.lists.now.entries in
    let ws = c.as_mut_slice-words in
    let ss = c.as_mut_slice-sums in
    let opened : AreSums tv m names [] ws.result.now ss.result.now =
    subst (λ (us : List ℕ). AreSums tv m names [] us ss.result.now) (sym ws.ensures.value)
    (subst (λ (vs : List g.row.T.Denot). AreSums tv m names [] c.in_ok-opened.opened.words.items vs) (sym ss.ensures.value) (c.in_ok-opened.ensures.none names (sym c.count.ensures))) in
    c.in_ok-made.ensures.folds m _ (c.add_entries.ensures.added [] opened)
    ∙ ap (column_folds m names) (with_own_values _ ∙ lent_by_column tv c.columns.result.now c.of_lists.result.now k c.columns.ensures.columns c.of_lists.ensures)
