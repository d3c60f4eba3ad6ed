use Rattle.std.proofs.Common.{◌≡◌, ◌<◌, All, [], ℕ, List, length, take, arith, refl, ap, sym, subst, ◌∙◌}
use Rattle.std.specs.Prelude.{◌≢◌, IsTrue, Some}
use Rattle.std.specs.Ordering.{nat_cmp}
use Rattle.std.specs.FinMap.{is_sorted}
use Rattle.std.specs.Vec.{with_items}
use Rattle.std.proofs.Math.ListN.{replicate}
use Rattle.std.proofs.lemmas.List.{get_or-take, with_items_is}
use Rattle.std.proofs.lemmas.List.Elements.{recursion_from_All}
use Rattle.grb_core.specs.Entries.{VectorEntries, values_at}
use Rattle.grb_core.specs.Fold.{fold_of_some}
use Rattle.grb_core.specs.Monoid.{identity_of}
use Rattle.grb_kernels.specs.Typed.{entries_of}
use Rattle.grb_kernels.proofs.Lists.{entries-same}
use Rattle.grb_lists.specs.Cells.{decoded}
use Rattle.grb_lists.proofs.Places.{passes}
use Rattle.grb_sums.specs.Bits.{value_at}
use Rattle.grb_sums.specs.ColumnSums.{column_folds, numbers_below}
use Rattle.grb_sums.specs.Numbers.{numbers_below-rise}
use Rattle.grb_sums.proofs.ColumnFolds.{column_folds-all}
use Rattle.grb_sums.proofs.RowByRow.{is_sorted-map_rising}
use Rattle.grb_push.specs.Pushes.{pushed}
use Rattle.grb_push.specs.Unmarked.{AreFolds}
use Rattle.grb_push.proofs.Pushing.{within-pushed}
use Rattle.grb_push.proofs.Unmarked.{all_folds, all_numbers, folds_none, length-take_le}
use Rattle.grb_push.proofs.late.sum_unmarked.Goals as goal

pub add_unmarked-requires-clause-in_range : goal.add_unmarked-requires-clause-in_range
add_unmarked-requires-clause-in_range g c =
    let long : c.args.ncols ≡ length c.as_mut_slice.result.now = omega (arith, ap length c.as_mut_slice.ensures.value, c.in_ok-sums.ensures.len) in
    subst (λ n. All (λ e. e.0.1 < n) (decoded c.args.lists.now.entries)) long c.requires.in_range

pub add_unmarked-requires-clause-none : goal.add_unmarked-requires-clause-none
add_unmarked-requires-clause-none g c =
    let tv = g.T.Scalar.value in
    let m = g.M.MonoidOver.monoid in
    let identity = c.identity.result in
    let sums : c.in_ok-sums.sums.items ≡ replicate c.args.ncols identity = c.in_ok-sums.ensures.items_if_clones_equal (λ y e. g.met.T.Stored.same_clone identity y e) in
    subst (λ (ss : List g.row.T.Denot). AreFolds tv m [] ss) (sym (c.as_mut_slice.ensures.value ∙ sums)) (folds_none tv m c.args.ncols identity c.identity.ensures)

pub invariant_of-result : goal.invariant_of-result
invariant_of-result g c =
    let tv = g.T.Scalar.value in
    let m = g.M.MonoidOver.monoid in
    let n = c.args.ncols in
    let u = c.args.u.now in
    let added = pushed (g.S.Side.makes g.O.Operator.op) (entries_of tv u.indices.now u.values.now) (decoded c.args.lists.now.entries) in
    let kept = c.in_ok-sums.sums in
    let sums = c.add_unmarked.new.sums in
    let long : length sums ≡ kept.len = omega (arith, c.add_unmarked.auto.sums, ap length c.as_mut_slice.ensures.value) in
    let count : length sums ≡ n = omega (arith, long, c.in_ok-sums.ensures.len) in
    let first : length (take n u.indices.now) ≡ n = length-take_le n u.indices.now c.requires.numbered in
    let numbers : c.in_ok-indices.indices.items ≡ numbers_below n =
    c.in_ok-indices.ensures.items ∙ all_numbers n (take n u.indices.now) first (λ p l. get_or-take n u.indices.now p 0 l ∙ c.requires.own p (omega (arith, l, c.requires.numbered))) in
    let read : c.as_slice.result.now ≡ sums = c.as_slice.ensures.value ∙ with_items_is kept sums long in
    let differ = subst (λ (ss : List g.row.T.Denot). (p : ℕ) → p < length ss → value_at tv ss p ≢ Some (identity_of m)) read (c.all_differ.ensures c.if-all_differ.true) in
    let are : entries_of tv c.in_ok-indices.indices.items (with_items kept sums).items ≡ column_folds m (numbers_below n) added =
    entries-same tv _ _ _ _ refl (with_items_is kept sums long) ∙ all_folds tv m n c.in_ok-indices.indices.items added sums c.add_unmarked.ensures count numbers differ in
    record {
      same = ap length c.in_ok-indices.ensures.items ∙ first ∙ sym count ∙ sym (ap length (with_items_is kept sums long));
      rising = subst (λ (e : VectorEntries). IsTrue (is_sorted nat_cmp e)) (sym are) (passes _ (is_sorted-map_rising (λ j. fold_of_some m (values_at nat_cmp j added)) (numbers_below n) (numbers_below-rise n)));
    }

pub returns-then-all_differ : goal.returns-then-all_differ
returns-then-all_differ g c =
    let tv = g.T.Scalar.value in
    let m = g.M.MonoidOver.monoid in
    let f = g.S.Side.makes g.O.Operator.op in
    let n = c.args.ncols in
    let u = c.args.u.now in
    let a = decoded c.args.lists.now.entries in
    let pushes = entries_of tv u.indices.now u.values.now in
    let added = pushed f pushes a in
    let kept = c.in_ok-sums.sums in
    let sums = c.add_unmarked.new.sums in
    let long : length sums ≡ kept.len = omega (arith, c.add_unmarked.auto.sums, ap length c.as_mut_slice.ensures.value) in
    let count : length sums ≡ n = omega (arith, long, c.in_ok-sums.ensures.len) in
    let first : length (take n u.indices.now) ≡ n = length-take_le n u.indices.now c.requires.numbered in
    let numbers : c.in_ok-indices.indices.items ≡ numbers_below n =
    c.in_ok-indices.ensures.items ∙ all_numbers n (take n u.indices.now) first (λ p l. get_or-take n u.indices.now p 0 l ∙ c.requires.own p (omega (arith, l, c.requires.numbered))) in
    let read : c.as_slice.result.now ≡ sums = c.as_slice.ensures.value ∙ with_items_is kept sums long in
    let differ = subst (λ (ss : List g.row.T.Denot). (p : ℕ) → p < length ss → value_at tv ss p ≢ Some (identity_of m)) read (c.all_differ.ensures c.if-all_differ.true) in
    entries-same tv _ _ _ _ refl (with_items_is kept sums long)
    ∙ all_folds tv m n c.in_ok-indices.indices.items added sums c.add_unmarked.ensures count numbers differ
    ∙ column_folds-all m n added (within-pushed (λ j. j < n) f pushes a (recursion_from_All (λ e. e.0.1 < n) a c.requires.in_range))
