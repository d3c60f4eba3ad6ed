use Rattle.std.proofs.Common.{◌≡◌, ◌≤◌, ℕ, List, false, arith, ap, sym, subst, ◌∙◌, take, drop}
use Rattle.std.specs.Prelude.{map}
use Rattle.grb_core.specs.Entries.{VectorEntries}
use Rattle.grb_core.specs.Fold.{fold_of}
use Rattle.grb_kernels.specs.Typed.{entries_of}
use Rattle.grb_semirings.specs.Products.{products, is_any}
use Rattle.grb_pull.specs.RowSums.{product_or}
use Rattle.grb_pull.proofs.Asked.{asked, summing, is_filled}
use Rattle.grb_semirings.proofs.Sums.{IsSumming}
use Rattle.grb_folds.proofs.Spans.{span_is, long_span}
use Rattle.grb_pull.proofs.RowSums.{folded_products}
use Rattle.grb_pull.proofs.row_products.RowTimesVectorSumRule.is_kept.Goals as goal

pub returns : goal.returns
returns g c =
    let tv = g.T.Scalar.value in
    let m = g.M.MonoidOver.monoid in
    let op = g.O.Operator.op in
    let y = g.L.Lookup.holds c.args.self.now.vector.now in
    let s = c.args.start in
    let e = c.args.end in
    let cs = c.args.columns.now in
    let vs = c.args._values.now in
    let order : s ≤ e = let l = c.requires.some in omega (arith, l) in
    let long = long_span cs s e order c.requires.within in
    let longs = long_span vs s e order (let w = c.requires.within in let q = c.requires.same in omega (arith, w, q)) in
    let x : VectorEntries = entries_of tv (drop s (take e cs)) (drop s (take e vs)) in
    let sums : IsSumming m (products op y x) (fold_of m (map (product_or m op y) x)) (is_filled (products op y x)) = summing m (products op y x) (fold_of m (map (product_or m op y) x)) (folded_products m op y x c.requires.of_domain) in
    asked m tv op y (drop s (take e cs)) (drop s (take e vs)) (tv c.args.sum) (is_filled (products op y x)) c.is_made.result (omega (arith, long, longs))
    (subst (λ v. IsSumming m (products op y x) v (is_filled (products op y x))) (sym c.requires.is_sum) sums)
    (λ n. subst (λ (t : List ℕ). is_any y t ≡ false) (span_is cs s e order) (c.is_made.ensures.other n))
    (λ i. c.is_made.ensures.same i ∙ ap (is_any y) (span_is cs s e order))
