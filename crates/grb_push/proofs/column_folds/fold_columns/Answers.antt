use Rattle.std.proofs.Common.{ℕ, List, subst, sym, ◌∙◌}
use Rattle.std.specs.Prelude.{map}
use Rattle.std.specs.List.{Contains}
use Rattle.grb_lists.specs.Cells.{decoded}
use Rattle.grb_ewise.specs.Ranks.{Rise}
use Rattle.grb_sums.specs.ColumnSums.{by_column}
use Rattle.grb_push.proofs.ByColumn.{by_column-named, by_column-below, built_by_column}
use Rattle.grb_sums.proofs.ColumnFolds.{column_folds-all, column_folds-named}
use Rattle.grb_push.proofs.column_folds.fold_columns.Goals as goal

pub returns-then-is_worth_opening : goal.returns-then-is_worth_opening
returns-then-is_worth_opening g c =
    let m = g.M.MonoidOver.monoid in
    let a = decoded c.args.rows.now.lists.now.entries in
    c.in_ok-made.ensures
    ∙ column_folds-all m c.args.rows.now.ncols (by_column a) (by_column-below c.args.rows.now.ncols a c.args.rows.now.in_range)
    ∙ built_by_column m a (λ j. c.transposed_exchanges_rows_and_columns.ensures.rows a j c.args.rows.now.ordered)

pub returns : goal.returns
returns g c =
    let m = g.M.MonoidOver.monoid in
    let a = decoded c.args.rows.now.lists.now.entries in
    let names = c.as_slice.result.now in
    let all : (j : ℕ) → Contains (map (λ e. e.0.1) a) j → Contains names j =
    λ j is. subst (λ (js : List ℕ). Contains js j) (sym c.as_slice.ensures.value) (c.in_ok-names.ensures.all j (subst (λ (js : List ℕ). Contains js j) (sym c.columns.ensures.columns) is)) in
    let rise : Rise names = subst Rise (sym c.as_slice.ensures.value) c.in_ok-names.ensures.rising in
    c.in_ok-made-2.ensures
    ∙ column_folds-named m names (by_column a) rise (by_column-named names a all)
    ∙ built_by_column m a (λ j. c.transposed_exchanges_rows_and_columns.ensures.rows a j c.args.rows.now.ordered)
