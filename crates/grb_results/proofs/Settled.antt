-- What is settled stays so, where last results stay; and where all calls are settled, all objects lie ready.
use borrow.Author.Count.{below_more}
use Rattle.std.proofs.Common.{◌≡◌, ◌⊎◌, inl, inr, ℕ, zero, suc, ◌+◌, ◌<◌, ◌≤◌, true, List, [], ◌∷◌, ◌++◌, length, refl, sym, ap, subst, ◌∙◌, Option, Some, None, is_some, slice_set, arith}
use Rattle.grb_results.proofs.Prelude.{slice_get, Call, Object, ObjectShapes, is_live, shapes_of, SharedContent, Content, content_at, Learnt, Table, AreReady, IsReady, KeepsAll, last_of, IsLearnt, contents_after, AreResults, AreSettled, IsApart, IsReadyAfter, IsReadyAt, IsResult, IsTable, length_push, none_since, store_before}
use Rattle.grb_links.proofs.Lists.{AtPush, Before, Last, pushed_at}
use Rattle.grb_slices.proofs.Live.{live_by}
use Rattle.grb_results.proofs.Lists.{set_beside}

abbrev Places : Type 0
Places = List (Option SharedContent)

pub ready_kept : (rs ss : Places) (k : ℕ) → ((v : SharedContent) → slice_get rs k ≡ Some (Some v) → slice_get ss k ≡ Some (Some v)) → IsReadyAt rs k → IsReadyAt ss k
ready_kept rs ss k keeps r = record { content = r.content; kept = keeps r.content r.kept; assembled = r.assembled }

-- what is there was once changed
pub last_there : (cs : List Call) (l : Learnt) (o : Object) → IsLearnt cs l → last_of l.lasts o ≡ 0 → is_live l.shapes.objects o ≡ true → ⊥
last_there cs l o is none live =
    let n : ℕ = length l.nodes.items in
    let gone : contents_after cs n o ≡ None = none_since cs n o (last_of l.lasts o) (is.since o) none in
    let there : is_live (shapes_of (store_before cs n)) o ≡ true = ap (λ (u : ObjectShapes). is_live u o) (sym is.shapes_are) ∙ live in
    let some : is_some (content_at (store_before cs n) o) ≡ true = sym (live_by (store_before cs n) o) ∙ there in
    no (content_at (store_before cs n) o) gone some
  where
    no : (x : Option Content) → x ≡ None → is_some x ≡ true → ⊥
    no x e f = cc

module _ (old new : Table) (learnt : new.learnt ≡ old.learnt) (fewer : new.settled ≤ old.settled) where
  live_old : (o : Object) → is_live new.learnt.shapes.objects o ≡ true → is_live old.learnt.shapes.objects o ≡ true
  live_old o e = ap (λ (l : Learnt). is_live l.shapes.objects o) (sym learnt) ∙ e

  last_old : (o : Object) (k : ℕ) → last_of new.learnt.lasts o ≡ suc k → last_of old.learnt.lasts o ≡ suc k
  last_old o k e = ap (λ (l : Learnt). last_of l.lasts o) (sym learnt) ∙ e

  settled_by : AreSettled old →
      ((k : ℕ) (o : Object) → is_live old.learnt.shapes.objects o ≡ true → last_of old.learnt.lasts o ≡ suc k → k < new.settled → IsReadyAt old.results.items k → IsReadyAt new.results.items k) → AreSettled new
  settled_by was keeps k near o live last = let l = live_old o live in let e = last_old o k last in keeps k o l e near (was k (omega (arith, near, fewer)) o l e)

  pub settled_kept : KeepsAll old new → AreSettled old → AreSettled new
  settled_kept keeps was = settled_by was (λ k o live last near. ready_kept old.results.items new.results.items k (keeps k))

  pub settled_same : new.results.items ≡ old.results.items → AreSettled old → AreSettled new
  settled_same same = settled_kept (λ k v stands. ap (λ (rs : Places). slice_get rs k) same ∙ stands)

  -- one result was put, or dropped, that was not the last of an object
  pub settled_set : (at : ℕ) (q : Option SharedContent) → IsApart old at → new.results.items ≡ slice_set old.results.items at q → AreSettled old → AreSettled new
  settled_set at q apart set was = settled_by was (λ k o live last near. ready_kept old.results.items new.results.items k (λ v stands.
      ap (λ (rs : Places). slice_get rs k) set ∙ set_beside old.results.items at q k (Some v) stands (λ same. apart o live (last ∙ ap suc same) (omega (arith, same, near, fewer)))))

  pub within_still : old.settled ≤ length old.learnt.nodes.items → new.settled ≤ length new.learnt.nodes.items
  within_still within = let count : length new.learnt.nodes.items ≡ length old.learnt.nodes.items = ap (λ (l : Learnt). length l.nodes.items) learnt in omega (arith, within, fewer, count)

-- where nothing is kept, nothing is settled
pub apart_none : (t : Table) (at : ℕ) → AreSettled t → ((v : SharedContent) → slice_get t.results.items at ≡ Some (Some v) → ⊥) → IsApart t at
apart_none t at settled none o live last near = let r = settled at near o live last in none r.content r.kept

-- the next call is settled too
pub settled_next : (t : Table) (at : ℕ) → t.settled ≡ at → IsReadyAfter t at → AreSettled t → (k : ℕ) → k < at + 1 → IsReadyAfter t k
settled_next t at here ready was = below_more (IsReadyAfter t) at (λ k near. was k (omega (arith, near, here))) ready

-- all are
pub all_ready : (cs : List Call) (t : Table) → IsTable cs t → length t.learnt.nodes.items ≤ t.settled → AreReady t
all_ready cs t is all o live = by (last_of t.learnt.lasts o) refl
  where
    by : (m : ℕ) → last_of t.learnt.lasts o ≡ m → IsReady t o
    by zero e = absurd (last_there cs t.learnt o is.learnt e live)
    by (suc k) e =
        let since = is.learnt.since o in
        let within : last_of t.learnt.lasts o ≤ length t.learnt.nodes.items = since.within in
        let r = is.settled k (omega (arith, e, within, all)) o live e in
        record { at = k; content = r.content; last = e; kept = r.kept; assembled = r.assembled }

-- what lies ready does so in a table that has the same results
pub ready_same : (old new : Table) → new.learnt ≡ old.learnt → new.results.items ≡ old.results.items → AreReady old → AreReady new
ready_same old new learnt same ready o live =
    let r = ready o (ap (λ (l : Learnt). is_live l.shapes.objects o) (sym learnt) ∙ live) in
    record { at = r.at; content = r.content; last = ap (λ (l : Learnt). last_of l.lasts o) learnt ∙ r.last; kept = ap (λ (rs : Places). slice_get rs r.at) same ∙ r.kept; assembled = r.assembled }

-- a list to which an element was added
pub get_front : {X : Type 0} (xs : List X) (y x : X) (k : ℕ) → slice_get xs k ≡ Some x → slice_get (xs ++ y ∷ []) k ≡ Some x
get_front [] y x k e = cc
get_front (z ∷ xs) y x zero e = e
get_front (z ∷ xs) y x (suc k) e = get_front xs y x k e

-- the calls were learnt, or one more
module _ (cs : List Call) (old new : Table) (was : IsTable cs old) (is : IsLearnt cs new.learnt) (settled : new.settled ≡ old.settled)
    (lasts : (o : Object) → (last_of new.learnt.lasts o ≡ last_of old.learnt.lasts o) ⊎ (last_of new.learnt.lasts o ≡ length old.learnt.nodes.items + 1)) where
  live_before : (o : Object) → last_of new.learnt.lasts o ≡ last_of old.learnt.lasts o → is_live new.learnt.shapes.objects o ≡ true → is_live old.learnt.shapes.objects o ≡ true
  live_before o same live =
      let n : ℕ = length old.learnt.nodes.items in let m : ℕ = length new.learnt.nodes.items in
      let now = is.since o in let before = was.learnt.since o in
      let one : contents_after cs m o ≡ contents_after cs n o = now.same ∙ (ap (λ (j : ℕ). contents_after cs j o) same ∙ sym before.same) in
      let there : is_live (shapes_of (store_before cs m)) o ≡ true = ap (λ (u : ObjectShapes). is_live u o) (sym is.shapes_are) ∙ live in
      ap (λ (u : ObjectShapes). is_live u o) was.learnt.shapes_are ∙ (live_by (store_before cs n) o ∙ (ap is_some (sym one) ∙ (sym (live_by (store_before cs m) o) ∙ there)))

  pub settled_learnt : KeepsAll old new → AreSettled new
  settled_learnt keeps k near o live last = by (lasts o)
    where
      by : (last_of new.learnt.lasts o ≡ last_of old.learnt.lasts o) ⊎ (last_of new.learnt.lasts o ≡ length old.learnt.nodes.items + 1) → IsReadyAt new.results.items k
      by (inl same) = ready_kept old.results.items new.results.items k (keeps k) (was.settled k (omega (arith, near, settled)) o (live_before o same live) (sym same ∙ last))
      by (inr next) = let within = was.within in absurd (omega (arith, near, settled, within, last, next))

module _ (cs : List Call) (old new : Table) (was : IsTable cs old) (is : IsLearnt cs new.learnt) (settled : new.settled ≡ old.settled) where
  pub table_learnt : ((o : Object) → (last_of new.learnt.lasts o ≡ last_of old.learnt.lasts o) ⊎ (last_of new.learnt.lasts o ≡ length old.learnt.nodes.items + 1)) →
      new.results.items ≡ old.results.items ++ None ∷ [] → length new.learnt.nodes.items ≡ length old.learnt.nodes.items + 1 → IsTable cs new
  table_learnt lasts more count = record {
    learnt = is;
    results = λ k v stands. by k v (pushed_at old.results.items None k (Some v) (sym (ap (λ (rs : Places). slice_get rs k) more) ∙ stands));
    places = let same = was.places in let places = ap length more ∙ length_push old.results.items None in omega (arith, same, count, places);
    settled = settled_learnt cs old new was is settled lasts (λ k v stands. ap (λ (rs : Places). slice_get rs k) more ∙ get_front old.results.items None (Some v) k stands);
    within = let within = was.within in omega (arith, within, settled, count);
  }
    where
      by : (k : ℕ) (v : SharedContent) → AtPush old.results.items None k (Some v) → IsResult cs k v
      by k v (Before f) = was.results k v f
      by k v (Last n f) = cc

  pub table_refused : ((o : Object) → last_of new.learnt.lasts o ≡ last_of old.learnt.lasts o) → new.results.items ≡ old.results.items → length new.learnt.nodes.items ≡ length old.learnt.nodes.items → IsTable cs new
  table_refused lasts same count = record {
    learnt = is;
    results = subst (λ (rs : Places). AreResults cs rs) (sym same) was.results;
    places = let places = was.places in let e : length new.results.items ≡ length old.results.items = ap length same in omega (arith, places, count, e);
    settled = settled_learnt cs old new was is settled (λ o. inl (lasts o)) (λ k v stands. ap (λ (rs : Places). slice_get rs k) same ∙ stands);
    within = let within = was.within in omega (arith, within, settled, count);
  }

-- and an object is looked at: it lies ready after one call more
pub table_next : (cs : List Call) (t n : Table) (at : ℕ) → IsTable cs t → t.settled ≡ at → IsReadyAfter t at → at < length t.learnt.nodes.items → n.learnt ≡ t.learnt → n.results ≡ t.results → n.settled ≡ at + 1 → IsTable cs n
table_next cs t n at was here ready near learnt results settled = record {
  learnt = subst (λ (l : Learnt). IsLearnt cs l) (sym learnt) was.learnt;
  results = subst (λ (rs : Places). AreResults cs rs) (sym items) was.results;
  places = ap length items ∙ (was.places ∙ sym count);
  settled = settled_same (record t { settled = n.settled }) n learnt (omega arith) items (λ k below. settled_next t at here ready was.settled k (omega (arith, below, settled)));
  within = omega (arith, near, count, settled);
}
  where
    items : n.results.items ≡ t.results.items
    items = ap (λ rs. rs.items) results

    count : length n.learnt.nodes.items ≡ length t.learnt.nodes.items
    count = ap (λ (l : Learnt). length l.nodes.items) learnt
