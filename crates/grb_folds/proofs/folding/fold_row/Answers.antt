use Rattle.std.proofs.Common.{◌∙◌, ap}
use Rattle.std.specs.Prelude.{map}
use Rattle.grb_core.specs.Fold.{fold_of}
use Rattle.grb_folds.proofs.Spans.{span_is}
use Rattle.grb_folds.proofs.folding.fold_row.Goals as goal

pub returns : goal.returns
returns g c =
    c.fold_values.ensures ∙ ap (λ us. fold_of g.M.MonoidOver.monoid (map g.T.Scalar.value us)) (span_is c.args.values.now c.args.start c.args.end c.requires.order)
