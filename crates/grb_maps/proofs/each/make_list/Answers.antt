use Rattle.std.proofs.Common.{◌≡◌, ℕ, List, length, take, ap, sym, subst, ◌∙◌, arith}
use Rattle.std.specs.Prelude.{IsTrue}
use Rattle.std.specs.Ordering.{nat_cmp}
use Rattle.std.specs.FinMap.{is_sorted}
use Rattle.grb_core.specs.Entries.{VectorEntries}
use Rattle.grb_kernels.specs.Typed.{entries_of}
use Rattle.grb_maps.proofs.Lists.{of_lent}
use Rattle.grb_core.proofs.Each.{holds, made_true, sorted-each}
use Rattle.grb_maps.proofs.each.make_list.Goals as goal

pub invariant_of-result-clause-rising : goal.invariant_of-result-clause-rising
invariant_of-result-clause-rising g c =
    let tv = g.T.Scalar.value in
    let gives = g.E.Each.gives c.args.each.now in
    let n = c.make_row-count.result in
    let columns = c.make_row-count.new.columns in
    let values = c.make_row-count.new.values in
    let columns_are : c.truncate.new.self.items ≡ take n columns =
    c.truncate.ensures.items ∙ of_lent n c.in_ok-indices.indices.len columns _ (omega (arith, c.make_row-count.auto.columns, ap length c.as_mut_slice.ensures.value, c.in_ok-indices.indices.ok.0)) in
    let values_are : c.truncate-2.new.self.items ≡ take n values =
    c.truncate-2.ensures.items ∙ of_lent n c.in_ok-values.values.len values _ (omega (arith, c.make_row-count.auto.values, ap length c.as_mut_slice-2.ensures.value, c.in_ok-values.values.ok.0)) in
    subst (λ (m : VectorEntries). IsTrue (is_sorted nat_cmp m))
    (sym (ap (λ (s : List ℕ). entries_of tv s c.truncate-2.new.self.items) columns_are ∙ ap (entries_of tv (take n columns)) values_are ∙ c.make_row-count.ensures.entries))
    (made_true _ (sorted-each nat_cmp gives (entries_of tv c.args.entries.now.indices.now c.args.entries.now.values.now) (holds _ c.args.entries.now.rising)))
