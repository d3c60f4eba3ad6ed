use Rattle.std.proofs.Common.{◌≡◌, ◌-◌, ◌∙◌, get_or, ap, arith}
use Rattle.grb_push.proofs.RunFolds.{run_grows, run_starts}
use Rattle.grb_push.proofs.runs.add_product.Goals as goal

-- the last entry is of the product's column
pub returns-then-ends_with-clause-entries : goal.returns-then-ends_with-clause-entries
returns-then-ends_with-clause-entries g c =
    let tv = g.T.Scalar.value in
    let k = c.args.k in
    let last = c.ends_with.ensures.last c.if-ends_with.true in
    let some = last.0 in
    run_grows tv g.M.MonoidOver.monoid c.args.indices.now c.args.values.now k c.args.product.0 c.requires.same c.requires.sorted
    (k - 1) c.index-values-k.result c.add.result (tv c.args.product.1) (omega arith) (omega arith) c.index-values-k.is last.1 c.add.ensures

-- it is not
pub returns-clause-entries : goal.returns-clause-entries
returns-clause-entries g c =
    let k = c.args.k in
    let ks = c.args.indices.now in
    run_starts g.T.Scalar.value g.M.MonoidOver.monoid ks c.args.values.now k c.args.product.0 c.requires.same c.requires.sorted
    c.args.product.1 c.requires.room c.requires.rising
    (λ n e t.
    let before : k - 1 ≡ n = omega (arith, e) in
    c.ends_with.ensures.other c.if-ends_with.false (omega (arith, e)) (ap (λ q. get_or ks q 0) before ∙ t))
