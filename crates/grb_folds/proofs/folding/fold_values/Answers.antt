use Rattle.std.proofs.Common.{◌+◌, ◌∙◌, ap, length, arith}
use Rattle.std.specs.Prelude.{map}
use Rattle.std.proofs.lemmas.List.{take_all}
use Rattle.grb_core.specs.Fold.{fold_of}
use Rattle.grb_folds.proofs.Spans.{span_is, span_of, join_spans, span_ends, whole_span}
use Rattle.grb_folds.proofs.folding.fold_values.Goals as goal

pub returns-then-is_final : goal.returns-then-is_final
returns-then-is_final g c =
    let tv = g.T.Scalar.value in
    let m = g.M.MonoidOver.monoid in
    let vs = c.args.values.now in
    span_ends m tv vs g.met.M.MonoidOver.same_domain c.read_all.ensures 0 c.whole.at (length vs) (tv c.whole.sum)
    (omega arith) c.whole.invariant.0 c.whole.invariant.1 (c.is_final.ensures c.if-is_final.true)
    ∙ ap (λ us. fold_of m (map tv us)) (take_all (length vs) vs (omega arith))

pub whole-preserved : goal.whole-preserved
whole-preserved g c =
    let tv = g.T.Scalar.value in
    let m = g.M.MonoidOver.monoid in
    let vs = c.args.values.now in
    let at = c.whole.at in (
      omega (arith, c.whole-test.true, c.whole.invariant.0),
      join_spans m tv vs 0 at (at + 256) (tv c.whole.sum) (tv c.fold_block.result) (tv c.add-sum.result) (omega arith) (omega arith) c.whole.invariant.1
          (span_of m tv vs g.met.M.MonoidOver.same_domain c.read_all.ensures at (at + 256) (tv c.fold_block.result)
          (c.fold_block.ensures ∙ ap (λ us. fold_of m (map tv us)) (span_is vs at (at + 256) (omega arith)))) c.add-sum.ensures,
    )

pub returns : goal.returns
returns g c =
    let tv = g.T.Scalar.value in
    let m = g.M.MonoidOver.monoid in
    let vs = c.args.values.now in
    let at = c.whole.at in
    whole_span m tv vs g.met.M.MonoidOver.same_domain c.read_all.ensures (tv c.add.result)
    (join_spans m tv vs 0 at (length vs) (tv c.whole.sum) (tv c.fold_fours.result) (tv c.add.result) (omega arith) c.whole.invariant.0 c.whole.invariant.1
    (span_of m tv vs g.met.M.MonoidOver.same_domain c.read_all.ensures at (length vs) (tv c.fold_fours.result) c.fold_fours.ensures) c.add.ensures)
