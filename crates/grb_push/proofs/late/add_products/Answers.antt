use Rattle.std.proofs.Common.{◌≡◌, ◌+◌, ◌<◌, ◌++◌, ◌∷◌, [], length, get_or, set, arith, ap, sym, subst, ◌∙◌}
use Rattle.grb_core.specs.Value.{IsValueOf}
use Rattle.grb_core.specs.Operator.{value_of_op}
use Rattle.grb_core.specs.Monoid.{monoid_op, monoid_domain}
use Rattle.grb_core.specs.Entries.{VectorEntries}
use Rattle.grb_kernels.specs.Typed.{first_entries}
use Rattle.grb_kernels.proofs.Lists.{first-read, first-all}
use Rattle.grb_sums.specs.ColumnSums.{with_values}
use Rattle.grb_sums.proofs.SumsByColumn.{added_more}
use Rattle.grb_push.specs.Unmarked.{AreFolds}
use Rattle.grb_push.proofs.Unmarked.{folds_more}
use Rattle.grb_push.proofs.late.add_products.Goals as goal

pub entries-preserved : goal.entries-preserved
entries-preserved g c added are =
    let tv = g.T.Scalar.value in
    let m = g.M.MonoidOver.monoid in
    let f = g.R.Term.gives c.args.term.now in
    let cs = c.args.columns.now in
    let vs = c.args.values.now in
    let i = c.entries.i in
    let j = get_or cs i 0 in
    let first = first_entries tv i cs vs in
    let next = first_entries tv (i + 1) cs vs in
    let ss = c.entries.sums in
    let x = c.index-values-i.result in
    let old = c.index-sums-at.result in
    let new = c.add.result in
    let inside : j < length ss = let below = c.requires.in_range i 0 c.entries-test.true in let long : length c.args.sums.now ≡ length ss = omega arith in omega (arith, below, long) in
    let one : next ≡ first ++ (j, tv x) ∷ [] = first-read tv cs vs i x c.entries-test.true c.requires.same c.index-values-i.is in
    let of : IsValueOf (monoid_domain m) (f (tv x)) =
    subst (λ d. IsValueOf d (f (tv x))) (sym g.met.M.MonoidOver.same_domain) (subst (IsValueOf g.T.Scalar.domain) c.of-made.ensures c.read-value.ensures.of_domain) in
    let made : tv new ≡ value_of_op (monoid_op m) (tv old) (f (tv x)) =
    c.add.ensures ∙ ap (value_of_op (monoid_op m) (tv old)) (ap tv c.read-value.ensures.same ∙ c.of-made.ensures) in
    subst (λ (all : VectorEntries). AreFolds tv m all (set ss j new)) (added_more f added first next j (tv x) one)
    (folds_more tv m (added ++ with_values f first) ss j (f (tv x)) old new (c.entries.invariant added are) inside c.index-sums-at.is of made)

pub returns : goal.returns
returns g c added are =
    let tv = g.T.Scalar.value in
    let cs = c.args.columns.now in
    let vs = c.args.values.now in
    subst (λ (m : VectorEntries). AreFolds tv g.M.MonoidOver.monoid (added ++ with_values (g.R.Term.gives c.args.term.now) m) c.entries.sums)
    (first-all tv cs vs c.entries.i c.entries-test.false c.requires.same) (c.entries.invariant added are)
