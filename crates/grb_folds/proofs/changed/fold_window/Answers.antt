use Rattle.std.proofs.Common.{◌+◌, false, get_or, ap, sym, ◌∙◌, arith}
use Rattle.std.specs.Prelude.{map}
use Rattle.std.proofs.lemmas.List.{length-map}
use Rattle.grb_core.specs.Fold.{fold_of}
use Rattle.grb_rows.specs.Layers.{is_listed}
use Rattle.grb_folds.proofs.Windows.{remaining-same, remaining-none}
use Rattle.grb_folds.proofs.changed.fold_window.Goals as goal

pub returns-then-mark_window : goal.returns-then-mark_window
returns-then-mark_window g c =
    let tv = g.T.Scalar.value in
    let vs = c.args.values.now in
    let places = c.args.places.now in
    let long = length-map vs tv in
    c.fold_unmarked.ensures
    ∙ ap (fold_of g.M.MonoidOver.monoid)
    (remaining-same (λ q. get_or c.mark_window.new.marks q false) (λ q. is_listed places (c.args.start + q)) (map tv vs)
    (λ q l. c.mark_window.ensures.marked q (omega (arith, l, long, c.requires))))

pub returns : goal.returns
returns g c =
    let tv = g.T.Scalar.value in
    let vs = c.args.values.now in
    let places = c.args.places.now in
    let long = length-map vs tv in
    c.fold_values.ensures
    ∙ sym (ap (fold_of g.M.MonoidOver.monoid) (remaining-none (λ q. is_listed places (c.args.start + q)) (map tv vs)
    (λ q l. c.mark_window.ensures.none c.if-mark_window.false q (omega (arith, l, long, c.requires)))))
