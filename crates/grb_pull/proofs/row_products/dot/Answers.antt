use Rattle.std.proofs.Common.{◌+◌, refl, sym, ap, subst, ◌∙◌, get_or, cond}
use Rattle.std.specs.Prelude.{◌||◌}
use Rattle.grb_core.specs.Value.{IsValueOf}
use Rattle.grb_core.specs.Operator.{value_of_op}
use Rattle.grb_core.specs.Monoid.{monoid_op, monoid_domain}
use Rattle.grb_core.specs.Fold.{fold_of_some}
use Rattle.grb_core.specs.Entries.{VectorEntries}
use Rattle.grb_kernels.specs.Typed.{first_entries, entries_from}
use Rattle.grb_kernels.proofs.Lists.{first-read, first-all}
use Rattle.grb_semirings.specs.Products.{products}
use Rattle.grb_semirings.proofs.Sums.{IsSumming}
use Rattle.grb_semirings.proofs.Marks.{folded_step, by_test, parted_at, ended_at, and_first, and_second}
use Rattle.grb_pull.proofs.Asked.{asked}
use Rattle.grb_pull.proofs.row_products.dot.Goals as goal

pub row-preserved : goal.row-preserved
row-preserved g c =
    let tv = g.T.Scalar.value in
    let m = g.M.MonoidOver.monoid in
    let op = g.O.Operator.op in
    let y = g.L.Lookup.holds c.args.vector.now in
    let cs = c.args.columns.now in
    let vs = c.args.values.now in
    let i = c.row.i in
    let here = c.at-value.result.1 in
    let product = c.read-product.result in
    let is : IsValueOf (monoid_domain m) (tv product) =
    subst (λ p. IsValueOf (monoid_domain m) (tv p)) (sym c.read-product.ensures.same) (subst (λ d. IsValueOf d (tv c.apply-made.result)) (sym g.met.M.MonoidOver.same_domain) c.read-product.ensures.of_domain) in
    subst (λ (x : VectorEntries). IsSumming m (products op y x) (tv c.add-sum.result) (here || c.row.any))
    (sym (first-read tv cs vs i c.index-values-i.result c.row-test.true c.requires.row c.index-values-i.is))
    (folded_step m op y (first_entries tv i cs vs) (get_or cs i 0) (tv c.index-values-i.result) (tv c.at-value.result.0) (tv product)
    (tv c.row.sum) (tv c.add-sum.result) here c.row.any (here || c.row.any)
    c.row.invariant (sym c.at-value.ensures) is (ap tv c.read-product.ensures.same ∙ c.apply-made.ensures)
    (c.add-sum.ensures ∙ ap (value_of_op (monoid_op m) (tv c.row.sum)) (ap tv c.chosen.ensures ∙ by_test tv here product c.identity.result ∙ ap (cond here (tv product)) c.identity.ensures)) refl)

pub returns-then-here-is_terminal : goal.returns-then-here-is_terminal
returns-then-here-is_terminal g c =
    let tv = g.T.Scalar.value in
    let m = g.M.MonoidOver.monoid in
    let op = g.O.Operator.op in
    let y = g.L.Lookup.holds c.args.vector.now in
    let cs = c.args.columns.now in
    let vs = c.args.values.now in
    let i = c.row.i in
    let here = c.at-value.result.1 in
    let product = c.read-product.result in
    let is : IsValueOf (monoid_domain m) (tv product) =
    subst (λ p. IsValueOf (monoid_domain m) (tv p)) (sym c.read-product.ensures.same) (subst (λ d. IsValueOf d (tv c.apply-made.result)) (sym g.met.M.MonoidOver.same_domain) c.read-product.ensures.of_domain) in
    ended_at m op y (first_entries tv i cs vs) (get_or cs i 0) (tv c.index-values-i.result) (tv c.at-value.result.0) (tv product) (tv c.row.sum) (entries_from tv (i + 1) cs vs) here c.row.any
    c.row.invariant (sym c.at-value.ensures) (and_first here c.is_terminal.result c.if-here-is_terminal.true) is (ap tv c.read-product.ensures.same ∙ c.apply-made.ensures)
    (c.is_terminal.ensures (and_second here c.is_terminal.result c.if-here-is_terminal.true))
    ∙ ap (λ (x : VectorEntries). fold_of_some m (products op y x)) (sym (parted_at tv cs vs i c.index-values-i.result c.row-test.true c.requires.row c.index-values-i.is))

pub returns-then-is_open : goal.returns-then-is_open
returns-then-is_open g c =
    let tv = g.T.Scalar.value in
    let m = g.M.MonoidOver.monoid in
    let op = g.O.Operator.op in
    let y = g.L.Lookup.holds c.args.vector.now in
    let cs = c.args.columns.now in
    let vs = c.args.values.now in
    asked m tv op y cs vs (tv c.row.sum) c.row.any c.is_made.result c.requires.row
    (subst (λ (x : VectorEntries). IsSumming m (products op y x) (tv c.row.sum) c.row.any) (first-all tv cs vs c.row.i c.row-test.false c.requires.row) c.row.invariant)
    c.is_made.ensures.other c.is_made.ensures.same
