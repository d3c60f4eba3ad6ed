use Rattle.std.proofs.Common.{◌-◌, ◌≤◌, ℕ, List, arith, ap, ◌∙◌, take, drop}
use Rattle.grb_core.specs.Fold.{fold_of_some}
use Rattle.grb_kernels.specs.Typed.{entries_of}
use Rattle.grb_semirings.specs.Products.{products}
use Rattle.grb_folds.proofs.Spans.{span_is}
use Rattle.grb_pull.proofs.row_products.RowTimesVectorRowRule.row.Goals as goal

pub returns : goal.returns
returns g c =
    let tv = g.T.Scalar.value in
    let y = g.L.Lookup.holds c.args.self.now.vector.now in
    let s = c.args.start in
    let e = c.args.end in
    let order : s ≤ e = let l = c.requires.some in omega (arith, l) in
    c.met_dot.ensures
    ∙ ap (λ (x : List ℕ). fold_of_some g.M.MonoidOver.monoid (products g.O.Operator.op y (entries_of tv x (take (e - s) (drop s c.args.values.now))))) (span_is c.args.columns.now s e order)
    ∙ ap (λ (x : List g.row.T.Denot). fold_of_some g.M.MonoidOver.monoid (products g.O.Operator.op y (entries_of tv (drop s (take e c.args.columns.now)) x))) (span_is c.args.values.now s e order)
