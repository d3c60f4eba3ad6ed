use Rattle.std.proofs.Common.{◌++◌, ap, sym, subst, ◌∙◌, arith}
use Rattle.std.specs.Prelude.{map}
use Rattle.std.proofs.lemmas.List.{map-append}
use Rattle.grb_core.specs.Value.{IsValueOf}
use Rattle.grb_core.specs.Fold.{fold_of}
use Rattle.grb_semirings.proofs.Folds.{folded_next, folded_all, folded_parts}
use Rattle.grb_folds.proofs.folding.fold_quarters.Goals as goal

pub loop-i-preserved : goal.loop-i-preserved
loop-i-preserved g c =
    let tv = g.T.Scalar.value in
    let m = g.M.MonoidOver.monoid in
    let i = c.loop-i.i in
    let h = c.loop-i.invariant in
    let lt = c.loop-i-test.true in
    let d = sym g.met.M.MonoidOver.same_domain in (
      folded_next m tv c.args.first.now i c.read.result c.index-first-i.result (tv c.loop-i.sums.0) (tv c.add-sums.result)
          h.0 (subst (λ d. IsValueOf d (tv c.index-first-i.result)) d c.read.ensures.of_domain) c.read.ensures.same lt c.index-first-i.is c.add-sums.ensures,
      folded_next m tv c.args.second.now i c.read-in-loop-i.result c.index-second-i.result (tv c.loop-i.sums.1) (tv c.add-sums-in-loop-i.result)
          h.1 (subst (λ d. IsValueOf d (tv c.index-second-i.result)) d c.read-in-loop-i.ensures.of_domain) c.read-in-loop-i.ensures.same (let e = c.requires.second in omega (arith, lt, e)) c.index-second-i.is c.add-sums-in-loop-i.ensures,
      folded_next m tv c.args.third.now i c.read-in-loop-i-2.result c.index-third-i.result (tv c.loop-i.sums.2) (tv c.add-sums-in-loop-i-2.result)
          h.2 (subst (λ d. IsValueOf d (tv c.index-third-i.result)) d c.read-in-loop-i-2.ensures.of_domain) c.read-in-loop-i-2.ensures.same (let e = c.requires.third in omega (arith, lt, e)) c.index-third-i.is c.add-sums-in-loop-i-2.ensures,
      folded_next m tv c.args.fourth.now i c.read-in-loop-i-3.result c.index-fourth-i.result (tv c.loop-i.sums.3) (tv c.add-sums-in-loop-i-3.result)
          h.3 (subst (λ d. IsValueOf d (tv c.index-fourth-i.result)) d c.read-in-loop-i-3.ensures.of_domain) c.read-in-loop-i-3.ensures.same (let e = c.requires.fourth in omega (arith, lt, e)) c.index-fourth-i.is c.add-sums-in-loop-i-3.ensures,
    )

pub returns : goal.returns
returns g c =
    let tv = g.T.Scalar.value in
    let m = g.M.MonoidOver.monoid in
    let i = c.loop-i.i in
    let h = c.loop-i.invariant in
    let done = c.loop-i-test.false in
    let a = c.args.first.now in
    let b = c.args.second.now in
    let x = c.args.third.now in
    let y = c.args.fourth.now in
    let low = folded_parts m (map tv a) (map tv b) (tv c.loop-i.sums.0) (tv c.loop-i.sums.1) (tv c.add.result)
    (folded_all m tv a i (tv c.loop-i.sums.0) h.0 done) (folded_all m tv b i (tv c.loop-i.sums.1) h.1 (let e = c.requires.second in omega (arith, done, e))) c.add.ensures in
    let high = folded_parts m (map tv x) (map tv y) (tv c.loop-i.sums.2) (tv c.loop-i.sums.3) (tv c.add-2.result)
    (folded_all m tv x i (tv c.loop-i.sums.2) h.2 (let e = c.requires.third in omega (arith, done, e)))
    (folded_all m tv y i (tv c.loop-i.sums.3) h.3 (let e = c.requires.fourth in omega (arith, done, e))) c.add-2.ensures in
    let all = folded_parts m (map tv a ++ map tv b) (map tv x ++ map tv y) (tv c.add.result) (tv c.add-2.result) (tv c.add-3.result) low high c.add-3.ensures in
    all.is_sum
    ∙ ap (fold_of m) (sym (map-append tv (a ++ b) (x ++ y) ∙ ap (λ us. us ++ map tv (x ++ y)) (map-append tv a b) ∙ ap (λ us. (map tv a ++ map tv b) ++ us) (map-append tv x y)))
