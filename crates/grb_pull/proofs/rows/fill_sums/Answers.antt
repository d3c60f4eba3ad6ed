use Rattle.std.proofs.Common.{◌≡◌, ◌+◌, ◌<◌, sym, subst, ◌∙◌, arith, set, length, length-set}
use Rattle.grb_pull.specs.RowSums.{added, AreSums}
use Rattle.grb_semirings.proofs.Folds.{IsFolding}
use Rattle.grb_pull.proofs.RowSums.{none_added, more_added, first_sum, more_sums}
use Rattle.grb_pull.proofs.rows.fill_sums.Goals as goal

pub entries-init : goal.entries-init
entries-init g c =
    let tv = g.T.Scalar.value in
    let m = g.M.MonoidOver.monoid in
    let adds = g.R.SumRule.adds c.args.rule.now in
    let cs = c.args.columns.now in
    let vs = c.args.values.now in
    let from = c.args.from in
    let here : from ≡ from + 0 = omega arith in
    record {
      at = omega arith;
      room = length-set c.args.sums.now 0 c.identity-sum.result;
      sum = subst (λ p. IsFolding m (added tv adds cs vs from p) (tv c.identity-sum.result)) here
          (subst (λ v. IsFolding m (added tv adds cs vs from from) v) (sym c.identity-sum.ensures) (none_added m tv adds cs vs c.requires.same from));
      sums = subst (λ p. AreSums m tv adds cs vs from p (set c.args.sums.now 0 c.identity-sum.result)) here (first_sum m tv adds cs vs c.requires.same from c.args.sums.now c.identity-sum.result c.requires.some c.identity-sum.ensures);
    }

pub entries-preserved : goal.entries-preserved
entries-preserved g c =
    let tv = g.T.Scalar.value in
    let m = g.M.MonoidOver.monoid in
    let adds = g.R.SumRule.adds c.args.rule.now in
    let cs = c.args.columns.now in
    let vs = c.args.values.now in
    let from = c.args.from in
    let at = c.entries.at in
    let place = from + at in
    let inside : place < length cs = omega (arith, c.entries-test.true) in
    let next : place + 1 ≡ from + (at + 1) = omega arith in
    let summed : IsFolding m (added tv adds cs vs from (from + (at + 1))) (tv c.add-sum.result) =
    subst (λ p. IsFolding m (added tv adds cs vs from p) (tv c.add-sum.result)) next
    (more_added m tv adds cs vs c.requires.same from place c.index-values-place.result (tv c.entries.sum) (tv c.term-term.result) (tv c.add-sum.result) (omega arith) inside
    c.index-values-place.is c.entries.invariant.sum c.term-term.ensures.is c.term-term.ensures.of_domain c.add-sum.ensures) in
    record {
      at = omega (arith, c.entries-test.true);
      room = length-set c.entries.sums (at + 1) c.add-sum.result ∙ c.entries.invariant.room;
      sum = summed;
      sums = more_sums m tv adds cs vs c.requires.same from at c.entries.sums c.add-sum.result c.entries.invariant.sums (omega (arith, c.entries-test.true, c.entries.invariant.room)) summed;
    }

pub returns-clause-sums : goal.returns-clause-sums
returns-clause-sums g c =
    let reached : c.args.from + c.entries.at ≡ c.args.from + c.min.result = omega (arith, c.entries-test.false, c.entries.invariant.at) in
    subst (λ p. AreSums g.M.MonoidOver.monoid g.T.Scalar.value (g.R.SumRule.adds c.args.rule.now) c.args.columns.now c.args.values.now c.args.from p c.entries.sums) reached c.entries.invariant.sums
