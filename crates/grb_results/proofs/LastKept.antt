-- Whether the result of the call that last changed an object is kept.
use Rattle.std.proofs.Common.{◌≡◌, ℕ, ◌+◌, ◌≤◌, true, false, List, length, sym, ap, subst, ◌∙◌, Option, Some, None, is_some, arith}
use Rattle.grb_results.proofs.Prelude.{slice_get, IfSome, IfNone, Call, Object, SharedContent, Learnt, Table, IsKept, IsLast, last_of, IsLearnt, AreResults, IsTable}
use Rattle.grb_results.proofs.Settled.{settled_same, within_still}

module _ {X : Type 0} (t : Table) (o : Object) (f : X → SharedContent) where
  pub kept_of : (q : Option X) → IfSome q (λ v. IsLast t o (f v)) → is_some q ≡ true → IsKept t o
  kept_of (Some v) is some = record { at = is.at; content = f v; last = is.last; kept = is.kept }
  kept_of None is some = cc

  pub not_kept_of : (q : Option X) → IfNone q ((k : ℕ) (v : SharedContent) → last_of t.learnt.lasts o ≡ k + 1 → slice_get t.results.items k ≡ Some (Some v) → ⊥) → is_some q ≡ false → IsKept t o → ⊥
  not_kept_of (Some v) lacks gone is = cc
  not_kept_of None lacks gone is =
      let last = is.last in let next : last_of t.learnt.lasts o ≡ is.at + 1 = omega (arith, last) in
      lacks is.at is.content next is.kept

-- what no clause speaks of may change
pub table_still : (cs : List Call) (old new : Table) → new.learnt ≡ old.learnt → new.results ≡ old.results → new.settled ≤ old.settled → IsTable cs old → IsTable cs new
table_still cs old new learnt results fewer was = record {
  learnt = subst (λ (l : Learnt). IsLearnt cs l) (sym learnt) was.learnt;
  results = subst (λ (rs : List (Option SharedContent)). AreResults cs rs) (sym items) was.results;
  places = ap length items ∙ (was.places ∙ ap (λ (l : Learnt). length l.nodes.items) (sym learnt));
  settled = settled_same old new learnt fewer items was.settled;
  within = within_still old new learnt fewer was.within;
}
  where
    items : new.results.items ≡ old.results.items
    items = ap (λ rs. rs.items) results

pub table_beside : (cs : List Call) (old new : Table) → new.learnt ≡ old.learnt → new.results ≡ old.results → new.settled ≡ old.settled → IsTable cs old → IsTable cs new
table_beside cs old new learnt results settled was = table_still cs old new learnt results (omega (arith, settled)) was

pub kept_beside : (old new : Table) (o : Object) → new.learnt ≡ old.learnt → new.results ≡ old.results → IsKept old o → IsKept new o
kept_beside old new o learnt results kept = record {
  at = kept.at;
  content = kept.content;
  last = ap (λ (l : Learnt). last_of l.lasts o) learnt ∙ kept.last;
  kept = ap (λ rs. slice_get rs.items kept.at) results ∙ kept.kept;
}

pub no_some : {X : Type 0} (q : Option X) (x : X) → q ≡ Some x → is_some q ≡ false → ⊥
no_some None x e f = cc
no_some (Some y) x e f = cc
