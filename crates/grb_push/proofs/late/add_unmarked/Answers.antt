use Rattle.std.proofs.Common.{◌≡◌, ◌<◌, ◌++◌, All, ℕ, List, length, get_or, arith, ap, sym, subst, ◌∙◌}
use Rattle.grb_core.specs.Entries.{VectorEntries}
use Rattle.grb_core.specs.Results.{row_of}
use Rattle.grb_kernels.specs.Typed.{first_entries}
use Rattle.grb_kernels.proofs.Lists.{first-all}
use Rattle.grb_ewise.proofs.Lent.{lent}
use Rattle.grb_lists.specs.Cells.{decoded}
use Rattle.grb_sums.specs.ColumnSums.{with_values}
use Rattle.grb_push.specs.Pushes.{pushed}
use Rattle.grb_push.specs.Unmarked.{AreFolds}
use Rattle.grb_push.proofs.EachRow.{between_none, not_less, pushed-between, pushed-row}
use Rattle.grb_push.proofs.late.add_unmarked.Goals as goal

pub each-init : goal.each-init
each-init g c n l below above =
    let tv = g.T.Scalar.value in
    let f = g.S.Side.makes g.O.Operator.op in
    let a = decoded c.args.lists.now.entries in
    let u = c.args.u.now in
    subst (λ (x : VectorEntries). AreFolds tv g.M.MonoidOver.monoid x c.args.sums.now)
    (sym (pushed-between tv f a u.indices.now u.values.now c.requires.own u.same 0 n (omega arith) l
    (λ i p q. c.rows-numbers.ensures.all i (λ j s e. let t = above j (omega arith) s in omega (arith, t, q, e))))) c.requires.none

pub add_products-requires-clause-in_range : goal.add_products-requires-clause-in_range
add_products-requires-clause-in_range g c =
    let long : length c.args.sums.now ≡ length c.each.sums = omega arith in
    subst (λ n. All (λ j. j < n) c.row_columns-columns.result.now) long (c.row_columns-columns.ensures.below (length c.args.sums.now) c.requires.in_range)

pub each-preserved : goal.each-preserved
each-preserved g c n l below above =
    let tv = g.T.Scalar.value in
    let m = g.M.MonoidOver.monoid in
    let f = g.S.Side.makes g.O.Operator.op in
    let numbers = c.args.lists.now.rows in
    let a = decoded c.args.lists.now.entries in
    let u = c.args.u.now in
    let k = c.each.k in
    let r = get_or numbers k 0 in
    let x = c.index-values-at.result in
    let long = ap length c.rows-numbers.ensures.list in
    let inside : k < length numbers = omega (arith, c.each-test.true, long) in
    let at = ap (λ (rs : List ℕ). get_or rs k 0) c.rows-numbers.ensures.list in
    let is : x ≡ get_or u.values.now r x = subst (λ j. x ≡ get_or u.values.now j x) at c.index-values-at.is in
    let before = pushed f (first_entries tv r u.indices.now u.values.now) a in
    let rise = c.rows-numbers.ensures.rise in
    let within = c.requires.within k inside in
    let added = c.add_products.ensures before (c.each.invariant r (omega (arith, within)) (λ q l. rise q k l inside) (λ q l h. not_less numbers k q rise l h)) in
    let row = lent tv c.row_columns-columns.result.now c.of_row.result.now (row_of r a) c.row_columns-columns.ensures.columns c.of_row.ensures in
    subst (λ (y : VectorEntries). AreFolds tv m y c.add_products.new.sums)
    (ap (λ (e : VectorEntries). before ++ with_values (f (tv x)) e) row
    ∙ sym (pushed-row tv f a u.indices.now u.values.now c.requires.own u.same r n x (below k (omega arith)) l is
    (λ i p q. c.rows-numbers.ensures.all i (between_none numbers k n i rise inside above p q)))) added

pub returns : goal.returns
returns g c =
    let tv = g.T.Scalar.value in
    let f = g.S.Side.makes g.O.Operator.op in
    let a = decoded c.args.lists.now.entries in
    let u = c.args.u.now in
    let n = length u.indices.now in
    let long = ap length c.rows-numbers.ensures.list in
    subst (λ (x : VectorEntries). AreFolds tv g.M.MonoidOver.monoid (pushed f x a) c.each.sums)
    (first-all tv u.indices.now u.values.now n (omega arith) u.same)
    (c.each.invariant n (omega arith) (λ q l. c.requires.within q (omega (arith, l, long))) (λ q l h. absurd (omega (arith, l, h, long, c.each-test.false))))
