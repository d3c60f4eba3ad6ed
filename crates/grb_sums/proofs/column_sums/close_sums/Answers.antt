use Rattle.std.proofs.Common.{◌≡◌, length, arith, ap, sym, subst, ◌∙◌}
use Rattle.std.specs.Prelude.{IsTrue}
use Rattle.std.specs.Ordering.{nat_cmp}
use Rattle.std.specs.FinMap.{is_sorted}
use Rattle.std.specs.Vec.{with_items}
use Rattle.std.proofs.lemmas.List.{with_items_is}
use Rattle.grb_core.specs.Entries.{VectorEntries}
use Rattle.grb_kernels.specs.Typed.{entries_of}
use Rattle.grb_kernels.proofs.Lists.{entries-same}
use Rattle.grb_sums.specs.Bits.{marked_values}
use Rattle.grb_sums.proofs.MarkCounts.{length-marked_values}
use Rattle.grb_sums.proofs.SumsByColumn.{marked_values-rise, marked_values-sums}
use Rattle.grb_sums.proofs.column_sums.close_sums.Goals as goal

pub close_into-requires-clause-room : goal.close_into-requires-clause-room
close_into-requires-clause-room g c =
    let long = length-marked_values g.T.Scalar.value (g.C.Columns.names c.args.columns.now) c.args.words.now c.args.sums.now (λ i. (c.type_inv.words i).fits) c.requires.marked in
    omega (arith, long, c.count_marks-count.ensures, ap length c.as_mut_slice.ensures.value, c.in_ok-indices.ensures.len)

pub invariant_of-result : goal.invariant_of-result
invariant_of-result g c =
    let tv = g.T.Scalar.value in
    let names = g.C.Columns.names c.args.columns.now in
    let indices = c.close_into.new.indices in
    let values = c.close_into.new.values in
    let indices_long : length indices ≡ c.in_ok-indices.indices.len = omega (arith, c.close_into.auto.indices, ap length c.as_mut_slice.ensures.value) in
    let values_long : length values ≡ c.in_ok-values.values.len = omega (arith, c.close_into.auto.values, ap length c.as_mut_slice-2.ensures.value) in
    let made : entries_of tv (with_items c.in_ok-indices.indices indices).items (with_items c.in_ok-values.values values).items ≡ marked_values tv names c.args.words.now c.args.sums.now =
    entries-same tv _ _ _ _ (with_items_is c.in_ok-indices.indices indices indices_long) (with_items_is c.in_ok-values.values values values_long) ∙ c.close_into.ensures in
    record {
      same = ap length (with_items_is c.in_ok-indices.indices indices indices_long)
          ∙ (let same : length indices ≡ length values = omega (arith, indices_long, values_long, c.in_ok-indices.ensures.len, c.in_ok-values.ensures.len) in same)
          ∙ sym (ap length (with_items_is c.in_ok-values.values values values_long));
      rising = subst (λ (m : VectorEntries). IsTrue (is_sorted nat_cmp m)) (sym made) (marked_values-rise tv names c.args.words.now c.args.sums.now (g.met.C.Columns.rising c.args.columns.now));
    }

pub returns-clause-values : goal.returns-clause-values
returns-clause-values g c =
    let tv = g.T.Scalar.value in
    let indices = c.close_into.new.indices in
    let values = c.close_into.new.values in
    let indices_long : length indices ≡ c.in_ok-indices.indices.len = omega (arith, c.close_into.auto.indices, ap length c.as_mut_slice.ensures.value) in
    let values_long : length values ≡ c.in_ok-values.values.len = omega (arith, c.close_into.auto.values, ap length c.as_mut_slice-2.ensures.value) in
    entries-same tv _ _ _ _ (with_items_is c.in_ok-indices.indices indices indices_long) (with_items_is c.in_ok-values.values values values_long)
    ∙ c.close_into.ensures

pub returns-clause-folds : goal.returns-clause-folds
returns-clause-folds g c m added are =
    returns-clause-values g c
    ∙ marked_values-sums g.T.Scalar.value (g.C.Columns.names c.args.columns.now) c.args.words.now c.args.sums.now m added are
