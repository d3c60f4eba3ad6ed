use Rattle.std.proofs.Common.{ap, sym, ◌∙◌}
use Rattle.grb_core.specs.Entries.{restricted}
use Rattle.grb_core.specs.Results.{reduce_rows_of, turned}
use Rattle.grb_lists.specs.Cells.{decoded}
use Rattle.grb_push.specs.Wanted.{is_wanted}
use Rattle.grb_push.proofs.WantedPlaces.{whole_made, wanted_made}
use Rattle.grb_pull.proofs.reduce_folds.fold_rows.Goals as goal

pub returns-then-tran : goal.returns-then-tran
returns-then-tran g c =
    whole_made c.args.tran (is_wanted c.args.wanted.now.among c.args.wanted.now.names.now) _ _ c.if-tran.true (c.in_ok-made.ensures ∙ ap (λ t. reduce_rows_of g.M.MonoidOver.monoid (turned t (decoded c.args.rows.now.lists.now.entries))) (sym c.if-tran.true))

pub returns-then-tells_differences : goal.returns-then-tells_differences
returns-then-tells_differences g c =
    wanted_made c.args.tran (is_wanted c.args.wanted.now.among c.args.wanted.now.names.now) _ _ c.if-tran.false (c.in_ok-made-2.ensures
    ∙ ap (λ t. restricted (is_wanted c.args.wanted.now.among c.args.wanted.now.names.now) (reduce_rows_of g.M.MonoidOver.monoid (turned t (decoded c.args.rows.now.lists.now.entries)))) (sym c.if-tran.false))

pub returns : goal.returns
returns g c =
    wanted_made c.args.tran (is_wanted c.args.wanted.now.among c.args.wanted.now.names.now) _ _ c.if-tran.false (c.in_ok-made-3.ensures
    ∙ ap (λ t. restricted (is_wanted c.args.wanted.now.among c.args.wanted.now.names.now) (reduce_rows_of g.M.MonoidOver.monoid (turned t (decoded c.args.rows.now.lists.now.entries)))) (sym c.if-tran.false))
