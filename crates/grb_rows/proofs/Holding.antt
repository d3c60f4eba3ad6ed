-- What is held where nothing waits, and after one change.
use Rattle.std.proofs.Common.{◌≡◌, ℕ, ◌+◌, ◌≤◌, Bool, false, cond, nat_eq, List, [], length, Option, IsTrue, refl, sym, ap, subst, ◌∙◌, arith}
use Rattle.std.specs.Prelude.{IfSome, is_some}
use Rattle.std.specs.Ordering.{nat_cmp}
use Rattle.std.specs.FinMap.{find, is_sorted}
use lib.Dec.{T}
use Rattle.grb_core.specs.declared.value.Value.{Value}
use Rattle.grb_core.specs.Entries.{VectorEntries}
use Rattle.grb_rows.specs.Pending.{Change, PendingView, changed_at, changed, last_at, IsChangeOf}
use Rattle.grb_lists.specs.Stored.{RowView}
use Rattle.grb_rows.specs.Held.{stored, IsLaid, held_view, IsHeld}
use Rattle.grb_rows.specs.Layers.{IsPlaced}
use Rattle.grb_lists.proofs.Places.{holds}
use Rattle.grb_rows.proofs.Changes.{find-changed_at, is_sorted-changed_at, length-changed_at, length-changed_le, same_map}
use Rattle.grb_rows.proofs.LaidOut.{is_sorted-stored, same_changes}
use Rattle.grb_rows.proofs.Layered.{placed-same}

-- where no change waits, the rows are the map
pub stored-settled : (row : RowView) (cs : List Change) → cs ≡ [] → stored row cs ≡ row.entries
stored-settled row cs none = ap (changed row.entries) none

-- there are no more entries than those that were assembled and the changes
pub length-stored_le : (row : RowView) (cs : List Change) → IsLaid row cs → length (stored row cs) ≤ length row.entries + length cs
length-stored_le row cs laid = length-changed_le cs row.entries (holds laid.ordered)

-- rows alone, with no change
module _ (row : RowView) (p : PendingView) (none : p ≡ record { changes = []; places = []; reserved = 0; apart = 0 }) where
  stored-fresh : stored row p.changes ≡ row.entries
  stored-fresh = ap (λ (q : PendingView). changed row.entries q.changes) none

  pub view-fresh : (a : Bool) → held_view row p a ≡ record { entries = row.entries; domain = row.domain; assembled = a; reserved = 0; pending = 0 }
  view-fresh a = ap (λ (q : PendingView). held_view row q a) none

  pub held-fresh : IsTrue (is_sorted nat_cmp row.entries) → (nvals : ℕ) → nvals ≡ length row.entries → (a : Bool) → IsHeld row p nvals a
  held-fresh ordered nvals count a =
      let gone : p.changes ≡ [] = ap (λ (q : PendingView). q.changes) none in
      record {
        laid = record { ordered = ordered; inside = λ q. subst (λ (cs : List Change). IfSome (last_at q cs) (λ d. IsChangeOf row.domain (q, d))) (sym gone) tt };
        placed = subst (λ (q : PendingView). IsPlaced row.entries q.places q.changes) (sym none) (λ k d l. refl);
        counted = count ∙ ap length (sym stored-fresh);
        settled = λ is. gone;
      }

-- the same last changes in another order
module _ (row : RowView) (p q : PendingView) (same : (k : ℕ) → last_at k q.changes ≡ last_at k p.changes) (nvals : ℕ) (a : Bool) (held : IsHeld row p nvals a) where
  pub stored-reordered : stored row q.changes ≡ stored row p.changes
  stored-reordered = same_changes row.entries q.changes p.changes (holds held.laid.ordered) same

  pub held-reordered : q.places ≡ p.places → (p.changes ≡ [] → q.changes ≡ []) → IsHeld row q nvals a
  held-reordered places none = record {
    laid = record { ordered = held.laid.ordered; inside = λ k. subst (λ l. IfSome l (λ d. IsChangeOf row.domain (k, d))) (sym (same k)) (held.laid.inside k) };
    placed = placed-same row.entries p.places p.changes held.placed q.changes same q.places places;
    counted = held.counted ∙ ap length (sym stored-reordered);
    settled = λ t. none (held.settled t);
  }

-- after one change
module _ (m n : VectorEntries) (k : ℕ) (c : Option Value) (hm : T (is_sorted nat_cmp m)) (hn : T (is_sorted nat_cmp n)) (found : (q : ℕ) → find nat_cmp q n ≡ cond (nat_eq q k) c (find nat_cmp q m)) where
  is_change : n ≡ changed_at k c m
  is_change = same_map n (changed_at k c m) hn (is_sorted-changed_at k c m hm) (λ q. found q ∙ sym (find-changed_at q k c m))

  counts : length n + cond (is_some (find nat_cmp k m)) 1 0 ≡ length m + cond (is_some c) 1 0
  counts = ap (λ (x : VectorEntries). length x + cond (is_some (find nat_cmp k m)) 1 0) is_change ∙ length-changed_at k c m hm

module _ (row : RowView) (p : PendingView) (nvals : ℕ) (a : Bool) (held : IsHeld row p nvals a)
    (new : RowView) (q : PendingView) (laid : IsLaid new q.changes)
    (k : ℕ) (c : Option Value) (found : (x : ℕ) → find nat_cmp x (stored new q.changes) ≡ cond (nat_eq x k) c (find nat_cmp x (stored row p.changes))) where
  pub entries-changed : stored new q.changes ≡ changed_at k c (stored row p.changes)
  entries-changed = is_change (stored row p.changes) (stored new q.changes) k c (is_sorted-stored row p.changes (holds held.laid.ordered)) (is_sorted-stored new q.changes (holds laid.ordered)) found

  pub held-changed : IsPlaced new.entries q.places q.changes → (stood : Bool) → stood ≡ is_some (find nat_cmp k (stored row p.changes)) → (count : ℕ) → count + cond stood 1 0 ≡ nvals + cond (is_some c) 1 0 → IsHeld new q count false
  held-changed placed stood there count is = record {
    laid = laid;
    placed = placed;
    counted =
        let e = counts (stored row p.changes) (stored new q.changes) k c (is_sorted-stored row p.changes (holds held.laid.ordered)) (is_sorted-stored new q.changes (holds laid.ordered)) found in
        let f = ap (λ b. count + cond b 1 0) (sym there) ∙ is in
        let n = held.counted in
        omega (arith, e, n, f);
    settled = λ t. cc;
  }
