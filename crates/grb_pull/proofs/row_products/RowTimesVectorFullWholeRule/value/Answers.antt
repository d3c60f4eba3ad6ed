use Rattle.std.proofs.Common.{◌≡◌, ◌-◌, ◌<◌, ◌≤◌, ℕ, List, true, arith, ap, sym, subst, ◌∙◌, length, take, drop}
use Rattle.std.proofs.lemmas.List.Elements.{All-drop, All-take}
use Rattle.grb_core.specs.Entries.{VectorEntries}
use Rattle.grb_core.specs.Fold.{fold_of_some}
use Rattle.grb_kernels.specs.Typed.{entries_of}
use Rattle.grb_semirings.specs.Products.{products, is_any}
use Rattle.grb_semirings.proofs.Folds.{IsFolding}
use Rattle.grb_sums.specs.Bits.{value_at}
use Rattle.grb_folds.proofs.Spans.{span_is, long_span}
use Rattle.grb_pull.proofs.Asked.{met_sum, met_value}
use Rattle.grb_pull.proofs.Full.{meets_full}
use Rattle.grb_pull.proofs.RowSums.{folded_products}
use Rattle.grb_pull.proofs.row_products.RowTimesVectorFullWholeRule.value.Goals as goal

pub returns-in-Some : goal.returns-in-Some
returns-in-Some g c =
    let tv = g.T.Scalar.value in
    let m = g.M.MonoidOver.monoid in
    let op = g.O.Operator.op in
    let us = c.args.self.now.vector.now.values.now in
    let y = value_at tv us in
    let s = c.args.start in
    let e = c.args.end in
    let cs = c.args.columns.now in
    let vs = c.args.values.now in
    let order : s ≤ e = let l = c.requires.some in omega (arith, l) in
    let long = long_span cs s e order c.requires.within in
    let longs = long_span vs s e order (let w = c.requires.within in let q = c.requires.same in omega (arith, w, q)) in
    let x : VectorEntries = entries_of tv (drop s (take e cs)) (drop s (take e vs)) in
    let met : is_any y (drop s (take e cs)) ≡ true = meets_full tv us (drop s (take e cs)) (let l = c.requires.some in omega (arith, l, long))
    (All-drop (λ q. q < length us) s (take e cs) (All-take (λ q. q < length us) e cs c.requires.in_range)) in
    met_sum m tv op y (drop s (take e cs)) (drop s (take e vs)) (omega (arith, long, longs)) met (tv c.in-Some.sum)
    (subst (IsFolding m (products op y x)) (sym c.in-Some.ensures.is_sum) (folded_products m op y x c.in-Some.ensures.of_domain))

pub returns-in-None : goal.returns-in-None
returns-in-None g c =
    let tv = g.T.Scalar.value in
    let m = g.M.MonoidOver.monoid in
    let op = g.O.Operator.op in
    let us = c.args.self.now.vector.now.values.now in
    let y = value_at tv us in
    let s = c.args.start in
    let e = c.args.end in
    let cs = c.args.columns.now in
    let vs = c.args.values.now in
    let order : s ≤ e = let l = c.requires.some in omega (arith, l) in
    let long = long_span cs s e order c.requires.within in
    let longs = long_span vs s e order (let w = c.requires.within in let q = c.requires.same in omega (arith, w, q)) in
    let met : is_any y (drop s (take e cs)) ≡ true = meets_full tv us (drop s (take e cs)) (let l = c.requires.some in omega (arith, l, long))
    (All-drop (λ q. q < length us) s (take e cs) (All-take (λ q. q < length us) e cs c.requires.in_range)) in
    met_value m tv op y (drop s (take e cs)) (drop s (take e vs)) (omega (arith, long, longs)) met (tv c.dot-value.result.0) c.dot-value.result.1
    (c.dot-value.ensures
    ∙ ap (λ (x : List ℕ). fold_of_some m (products op y (entries_of tv x (take (e - s) (drop s vs))))) (span_is cs s e order)
    ∙ ap (λ (x : List g.row.T.Denot). fold_of_some m (products op y (entries_of tv (drop s (take e cs)) x))) (span_is vs s e order))
