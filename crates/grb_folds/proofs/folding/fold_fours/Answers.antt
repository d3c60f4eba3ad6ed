use Rattle.std.proofs.Common.{◌+◌, arith, sym, subst}
use Rattle.grb_folds.proofs.Spans.{IsSpan, no_span, span_of, join_spans, span_ends}
use Rattle.grb_folds.proofs.folding.fold_fours.Goals as goal

pub fours-init : goal.fours-init
fours-init g c =
    let tv = g.T.Scalar.value in
    let m = g.M.MonoidOver.monoid in
    record {
      after = omega arith;
      before = c.requires.order;
      so_far = subst (IsSpan m tv c.args.values.now c.args.start c.args.start) (sym c.identity-sum.ensures) (no_span m tv c.args.values.now c.args.start);
    }

pub returns-then-is_terminal : goal.returns-then-is_terminal
returns-then-is_terminal g c =
    span_ends g.M.MonoidOver.monoid g.T.Scalar.value c.args.values.now g.met.M.MonoidOver.same_domain c.show.ensures c.args.start c.fours.at c.args.end (g.T.Scalar.value c.fours.sum)
    c.fours.invariant.after c.fours.invariant.before c.fours.invariant.so_far (λ v is. c.is_terminal.ensures c.if-is_terminal.true v)

pub fours-preserved : goal.fours-preserved
fours-preserved g c =
    let tv = g.T.Scalar.value in
    let m = g.M.MonoidOver.monoid in
    let vs = c.args.values.now in
    let at = c.fours.at in
    record {
      after = omega (arith, c.fours.invariant.after);
      before = omega (arith, c.fours.invariant.before, c.fours-test.true);
      so_far = join_spans m tv vs c.args.start at (at + 4) (tv c.fours.sum) (tv c.fold_4.result) (tv c.add-sum.result) c.fours.invariant.after (omega arith) c.fours.invariant.so_far
          (span_of m tv vs g.met.M.MonoidOver.same_domain c.show.ensures at (at + 4) (tv c.fold_4.result) c.fold_4.ensures) c.add-sum.ensures;
    }

pub returns : goal.returns
returns g c =
    let tv = g.T.Scalar.value in
    let m = g.M.MonoidOver.monoid in
    let vs = c.args.values.now in
    let at = c.fours.at in
    (join_spans m tv vs c.args.start at c.args.end (tv c.fours.sum) (tv c.fold_each.result) (tv c.add.result) c.fours.invariant.after c.fours.invariant.before c.fours.invariant.so_far
    (span_of m tv vs g.met.M.MonoidOver.same_domain c.show.ensures at c.args.end (tv c.fold_each.result) c.fold_each.ensures) c.add.ensures).is_sum
