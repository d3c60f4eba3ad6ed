use Rattle.std.proofs.Common.{◌≡◌, length, arith, ap, sym, subst, ◌∙◌}
use Rattle.std.specs.Prelude.{IsTrue}
use Rattle.std.specs.Ordering.{nat_cmp}
use Rattle.std.specs.FinMap.{is_sorted}
use Rattle.std.specs.Vec.{with_items}
use Rattle.std.proofs.lemmas.List.{with_items_is}
use Rattle.grb_core.specs.Entries.{VectorEntries}
use Rattle.grb_kernels.specs.Typed.{entries_of}
use Rattle.grb_kernels.proofs.Lists.{entries-same}
use Rattle.grb_lists.proofs.Places.{holds, passes}
use Rattle.grb_sums.specs.ColumnSums.{with_values}
use Rattle.grb_push.proofs.LoneRows.{entries-made, sorted-with_values}
use Rattle.grb_push.proofs.push.multiply_row.Goals as goal

pub invariant_of-result : goal.invariant_of-result
invariant_of-result g c =
    let tv = g.T.Scalar.value in
    let f = g.S.Side.makes g.O.Operator.op (tv c.args.x) in
    let row = c.row-row.result in
    let kept = c.in_ok-values.values in
    let made = c.make_each.new.made in
    let long : length made ≡ kept.len = omega (arith, c.make_each.auto.made, ap length c.as_mut_slice.ensures.value) in
    let are : entries_of tv c.in_ok-indices.indices.items (with_items kept made).items ≡ with_values f (entries_of tv row.indices.now row.values.now) =
    entries-same tv _ _ _ _ c.in_ok-indices.ensures.items (with_items_is kept made long) ∙ entries-made tv f row.indices.now row.values.now made c.make_each.ensures in
    record {
      same = ap length c.in_ok-indices.ensures.items
          ∙ (let same : length row.indices.now ≡ length made = omega (arith, row.same, long, c.in_ok-values.ensures.len) in same)
          ∙ sym (ap length (with_items_is kept made long));
      rising = subst (λ (m : VectorEntries). IsTrue (is_sorted nat_cmp m)) (sym are) (passes _ (sorted-with_values f (entries_of tv row.indices.now row.values.now) (holds row.rising)));
    }

pub returns-clause-products : goal.returns-clause-products
returns-clause-products g c =
    let tv = g.T.Scalar.value in
    let f = g.S.Side.makes g.O.Operator.op (tv c.args.x) in
    let row = c.row-row.result in
    let kept = c.in_ok-values.values in
    let made = c.make_each.new.made in
    let long : length made ≡ kept.len = omega (arith, c.make_each.auto.made, ap length c.as_mut_slice.ensures.value) in
    entries-same tv _ _ _ _ c.in_ok-indices.ensures.items (with_items_is kept made long)
    ∙ entries-made tv f row.indices.now row.values.now made c.make_each.ensures
    ∙ ap (with_values f) c.row-row.ensures
