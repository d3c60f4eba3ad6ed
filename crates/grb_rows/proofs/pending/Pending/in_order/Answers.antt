use Rattle.std.proofs.Common.{◌≡◌, ◌∙◌, ℕ, List, nat_eq, ap, sym, subst, arith}
use Rattle.std.specs.List.{IsDistinct}
use Rattle.std.specs.Map.{keys_of}
use Rattle.std.proofs.lemmas.Bool.Decides.{nat_tests}
use Rattle.std.proofs.lemmas.List.Sorted.{IsPermutation-map}
use Rattle.std.proofs.lemmas.Map.Keys.{IsDistinct-IsPermutation}
use Rattle.grb_rows.specs.Pending.{Change, PendingView, last_at}
use Rattle.grb_lists.proofs.Places.{both_if_ok, holds, passes}
use Rattle.grb_rows.proofs.LaidOut.{last_at-sorted}
use Rattle.grb_rows.proofs.Latest.{is_sorted-distinct, last_at-stable}
use Rattle.grb_rows.proofs.pending.Pending.in_order.Goals as goal

flip : (x y : ℕ) → nat_eq x y ≡ nat_eq y x
flip x y = grind (arith, nat_tests)

pub returns-clause-sorted : goal.returns-clause-sorted
returns-clause-sorted c =
    let xs = c.deref.result.now in
    let is : xs ≡ c.self.inside.latest.entries = c.deref.ensures.value ∙ c.in_ok-changes.ensures in
    let distinct = subst (λ (es : List Change). IsDistinct nat_eq (keys_of es)) (sym is) c.self.invariant.0 in
    both_if_ok c.in_order.result (λ ys moved sorted. passes _ (is_sorted-distinct ys.items sorted
    (IsDistinct-IsPermutation nat_eq flip (keys_of xs) (keys_of ys.items) (IsPermutation-map (λ (e : Change). e.0) xs ys.items moved) distinct))) c.in_order.ensures.permutation c.in_order.ensures.sorted

pub returns-clause-found : goal.returns-clause-found
returns-clause-found c =
    let xs = c.deref.result.now in
    let is : xs ≡ c.self.inside.latest.entries = c.deref.ensures.value ∙ c.in_ok-changes.ensures in
    both_if_ok c.in_order.result (λ ys sorted stable q. sym (last_at-sorted q ys.items (holds sorted)) ∙ last_at-stable xs ys.items stable q ∙ ap (last_at q) is ∙ ap (λ (v : PendingView). last_at q v.changes) c.self.view_is)
    (returns-clause-sorted c) c.in_order.ensures.stable
