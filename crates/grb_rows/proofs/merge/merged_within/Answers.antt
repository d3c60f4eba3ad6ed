use Rattle.std.proofs.Common.{◌≡◌, ℕ, ◌<◌, ◌≤◌, ◌∙◌, Bool, cond, length, get_or, sym, ap, subst, arith}
use Rattle.std.proofs.lemmas.List.{get_or_default}
use Rattle.std.specs.List.{AllByRecursion}
use Rattle.grb_core.specs.declared.value.Value.{Value}
use Rattle.grb_core.specs.Entries.{VectorEntries, restricted}
use Rattle.grb_core.specs.Contents.{is_cell_in}
use Rattle.grb_lists.specs.Cells.{cell_of}
use Rattle.grb_rows.specs.Pending.{Change, changed_at}
use Rattle.grb_lists.proofs.Places.{holds}
use Rattle.grb_lists.proofs.Cut.{all-restricted}
use Rattle.grb_rows.proofs.Kept.{kept_so_far, restricted_changed}
use Rattle.grb_rows.proofs.Merging.{so_far, so_far-all, RowBelow, entry_above, change_above, change_passed, row_below_passed, changes_below_passed}
use Rattle.grb_rows.proofs.merge.merged_within.Goals as goal

pub keep_within-requires-clause-above : goal.keep_within-requires-clause-above
keep_within-requires-clause-above c =
    let m = c.args.row.now.entries in
    let cs = c.args.changes.now.items in
    let t : ℕ → Bool = λ k. is_cell_in c.args.dims.0 c.args.dims.1 (cell_of k) in
    let held = c.loop-j.invariant in
    λ l d.
    let k = (get_or m c.loop-j.i d).0 in
    subst (λ (x : VectorEntries). AllByRecursion (λ e. e.0 < k) x) (sym held.entries)
    (all-restricted t k (so_far m cs c.loop-j.i c.loop-j.j)
    (entry_above m cs c.loop-j.i c.loop-j.j (holds c.requires.row_ordered) (holds c.requires.ordered) d (omega (arith, l, c.place_from-next.ensures.within)) held.changes_below))

pub store_within-requires-clause-above : goal.store_within-requires-clause-above
store_within-requires-clause-above c =
    let m = c.args.row.now.entries in
    let cs = c.args.changes.now.items in
    let t : ℕ → Bool = λ k. is_cell_in c.args.dims.0 c.args.dims.1 (cell_of k) in
    let hm = holds c.requires.row_ordered in
    let held = c.loop-j.invariant in
    let i = c.loop-j.i in
    let j = c.loop-j.j in
    let next = c.place_from-next.result in
    let place = c.place_from-next.ensures in
    let inside : j < length cs = omega (arith, c.loop-j-test.true, c.len-j-end.ensures, c.args.changes.now.ok.0) in
    let number : (e : Change) → c.index.result.now ≡ get_or cs j e = λ e. c.index.ensures ∙ get_or_default cs j c.index.result.now e inside in
    let row_below : RowBelow m cs next j = λ a d e l n. subst (λ (x : Change). (get_or m a d).0 < x.0) (number e) (place.below a d l) in
    let change = c.index-in-loop-j.result.now in
    let is : (e : Change) → change ≡ get_or cs j e = λ e. c.index-in-loop-j.ensures ∙ get_or_default cs j change e inside in
    let more = kept_so_far t m cs i j next hm place.after place.within held.changes_below _ _ held.entries c.in_ok-keep_within.ensures.entries in
    subst (λ (x : VectorEntries). AllByRecursion (λ e. e.0 < change.0) x) (sym more)
    (all-restricted t change.0 (so_far m cs next j) (change_above m cs next j hm (holds c.requires.ordered) change is inside row_below))

pub loop-j-preserved : goal.loop-j-preserved
loop-j-preserved c =
    let m = c.args.row.now.entries in
    let cs = c.args.changes.now.items in
    let t : ℕ → Bool = λ k. is_cell_in c.args.dims.0 c.args.dims.1 (cell_of k) in
    let hm = holds c.requires.row_ordered in
    let hc = holds c.requires.ordered in
    let held = c.loop-j.invariant in
    let i = c.loop-j.i in
    let j = c.loop-j.j in
    let next = c.place_from-next.result in
    let place = c.place_from-next.ensures in
    let inside : j < length cs = omega (arith, c.loop-j-test.true, c.len-j-end.ensures, c.args.changes.now.ok.0) in
    let number : (e : Change) → c.index.result.now ≡ get_or cs j e = λ e. c.index.ensures ∙ get_or_default cs j c.index.result.now e inside in
    let row_below : RowBelow m cs next j = λ a d e l n. subst (λ (x : Change). (get_or m a d).0 < x.0) (number e) (place.below a d l) in
    let change = c.index-in-loop-j.result.now in
    let is : (e : Change) → change ≡ get_or cs j e = λ e. c.index-in-loop-j.ensures ∙ get_or_default cs j change e inside in
    let more = kept_so_far t m cs i j next hm place.after place.within held.changes_below _ _ held.entries c.in_ok-keep_within.ensures.entries in
    let after = c.place_after-i.ensures in
    let to = c.place_after-i.result in
    let again : c.index-in-loop-j-2.result.now.0 ≡ change.0 = ap (λ (x : Change). x.0) (c.index-in-loop-j-2.ensures ∙ get_or_default cs j c.index-in-loop-j-2.result.now change inside ∙ sym (is change)) in
    let passed : (q : ℕ) (d : ℕ × Value) → next ≤ q → q < to → (q ≡ next) × ((get_or m q d).0 ≡ change.0) = λ q d l n. let p = after.passed q d l n in (p.0, p.1 ∙ again) in
    let above : (q : ℕ) (d : ℕ × Value) → to ≤ q → q < length m → change.0 < (get_or m q d).0 = λ q d l n. let p = after.above q d l n in omega (arith, p, again) in
    record {
      i = after.within;
      entries = c.store_within.ensures.entries
          ∙ ap (λ (x : VectorEntries). cond (t change.0) (changed_at change.0 change.1 x) x) more
          ∙ restricted_changed t change.0 change.1 (so_far m cs next j) (change_above m cs next j hm hc change is inside row_below)
          ∙ ap (restricted t) (change_passed m cs next j to hm hc change is inside row_below after.after after.within passed above);
      row_below = row_below_passed m cs next j to hm hc change is inside row_below after.after after.within passed above;
      changes_below = changes_below_passed m cs next j to hm hc change is inside row_below after.after after.within passed above;
      domain = c.store_within.ensures.domain ∙ c.keep_within.ensures.domain ∙ held.domain;
      room = let a = c.store_within.ensures.room in let b = c.in_ok-keep_within.ensures.room in omega (arith, a, b, inside, c.len.ensures, c.args.changes.now.ok.0);
    }

pub keep_within-requires-2-clause-above : goal.keep_within-requires-2-clause-above
keep_within-requires-2-clause-above c =
    let m = c.args.row.now.entries in
    let cs = c.args.changes.now.items in
    let t : ℕ → Bool = λ k. is_cell_in c.args.dims.0 c.args.dims.1 (cell_of k) in
    let held = c.loop-j.invariant in
    λ l d.
    let k = (get_or m c.loop-j.i d).0 in
    subst (λ (x : VectorEntries). AllByRecursion (λ e. e.0 < k) x) (sym held.entries)
    (all-restricted t k (so_far m cs c.loop-j.i c.loop-j.j)
    (entry_above m cs c.loop-j.i c.loop-j.j (holds c.requires.row_ordered) (holds c.requires.ordered) d (omega (arith, l, c.len-2.ensures.len)) held.changes_below))

pub returns-clause-entries : goal.returns-clause-entries
returns-clause-entries c =
    let m = c.args.row.now.entries in
    let cs = c.args.changes.now.items in
    let t : ℕ → Bool = λ k. is_cell_in c.args.dims.0 c.args.dims.1 (cell_of k) in
    let held = c.loop-j.invariant in
    let i = c.loop-j.i in
    let j = c.loop-j.j in
    let end = c.len-2.result in
    let j_end : j ≡ length cs = omega (arith, c.loop-j-test.false, c.loop-j.auto.j-end, c.len-j-end.ensures, c.args.changes.now.ok.0) in
    let more =
    kept_so_far t m cs i j end (holds c.requires.row_ordered) (omega (arith, held.i, c.len-2.ensures.len)) (omega (arith, c.len-2.ensures.len)) held.changes_below _ _ held.entries c.in_ok-keep_within-2.ensures.entries in
    c.shrink.ensures.entries ∙ more ∙ ap (restricted t) (so_far-all m cs end j c.len-2.ensures.len j_end)
