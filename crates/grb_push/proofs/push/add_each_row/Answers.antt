use Rattle.std.proofs.Common.{◌≡◌, ◌<◌, ◌++◌, ℕ, List, length, get_or, arith, ap, sym, subst, ◌∙◌}
use Rattle.grb_core.specs.Entries.{VectorEntries}
use Rattle.grb_core.specs.Results.{row_of}
use Rattle.grb_kernels.specs.Typed.{first_entries}
use Rattle.grb_kernels.proofs.Lists.{first-all}
use Rattle.grb_ewise.proofs.Lent.{lent}
use Rattle.grb_lists.specs.Cells.{decoded}
use Rattle.grb_sums.specs.ColumnSums.{AreSums, with_values}
use Rattle.grb_push.specs.Pushes.{pushed}
use Rattle.grb_push.proofs.EachRow.{between_none, not_less, pushed-between, pushed-row}
use Rattle.grb_push.proofs.push.add_each_row.Goals as goal

pub each-init : goal.each-init
each-init g c =
    let tv = g.T.Scalar.value in
    let f = g.S.Side.makes g.O.Operator.op in
    let a = decoded c.args.lists.now.entries in
    let u = c.args.u.now in
    record {
      marked = c.requires.marked;
      added = λ n l below above.
          subst (λ (x : VectorEntries). AreSums tv g.M.MonoidOver.monoid (g.C.Columns.names c.args.columns.now) x c.args.words.now c.args.sums.now)
          (sym (pushed-between tv f a u.indices.now u.values.now c.requires.own u.same 0 n (omega arith) l
          (λ i p q. c.rows-numbers.ensures.all i (λ j s e. let t = above j (omega arith) s in omega (arith, t, q, e))))) c.requires.none;
    }

pub each-preserved : goal.each-preserved
each-preserved g c =
    let tv = g.T.Scalar.value in
    let m = g.M.MonoidOver.monoid in
    let f = g.S.Side.makes g.O.Operator.op in
    let names = g.C.Columns.names c.args.columns.now in
    let numbers = c.args.lists.now.rows in
    let a = decoded c.args.lists.now.entries in
    let u = c.args.u.now in
    let k = c.each.k in
    let r = get_or numbers k 0 in
    let x = c.index-values-at.result in
    let long = ap length c.rows-numbers.ensures.list in
    let inside : k < length numbers = omega (arith, c.each-test.true, long) in
    let at = ap (λ (rs : List ℕ). get_or rs k 0) c.rows-numbers.ensures.list in
    let is : x ≡ get_or u.values.now r x = subst (λ j. x ≡ get_or u.values.now j x) at c.index-values-at.is in
    let before = pushed f (first_entries tv r u.indices.now u.values.now) a in
    let rise = c.rows-numbers.ensures.rise in
    let within = c.requires.within k inside in
    let added = c.add_entries.ensures.added before (c.each.invariant.added r (omega (arith, within)) (λ q l. rise q k l inside) (λ q l h. not_less numbers k q rise l h)) in
    let row = lent tv c.row_columns.result.now c.of_row.result.now (row_of r a) c.row_columns.ensures.columns c.of_row.ensures in
    record {
      marked = c.add_entries.ensures.marked;
      added = λ n l below above.
          subst (λ (y : VectorEntries). AreSums tv m names y c.add_entries.new.words c.add_entries.new.sums)
          (ap (λ (e : VectorEntries). before ++ with_values (f (tv x)) e) row
          ∙ sym (pushed-row tv f a u.indices.now u.values.now c.requires.own u.same r n x (below k (omega arith)) l is
          (λ i p q. c.rows-numbers.ensures.all i (between_none numbers k n i rise inside above p q)))) added;
    }

pub returns-clause-added : goal.returns-clause-added
returns-clause-added g c =
    let tv = g.T.Scalar.value in
    let f = g.S.Side.makes g.O.Operator.op in
    let a = decoded c.args.lists.now.entries in
    let u = c.args.u.now in
    let n = length u.indices.now in
    let long = ap length c.rows-numbers.ensures.list in
    subst (λ (x : VectorEntries). AreSums tv g.M.MonoidOver.monoid (g.C.Columns.names c.args.columns.now) (pushed f x a) c.each.words c.each.sums)
    (first-all tv u.indices.now u.values.now n (omega arith) u.same)
    (c.each.invariant.added n (omega arith) (λ q l. c.requires.within q (omega (arith, l, long))) (λ q l h. absurd (omega (arith, l, h, long, c.each-test.false))))
