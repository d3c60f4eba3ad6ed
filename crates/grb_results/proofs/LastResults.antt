-- The last results of objects: what they hold, and what is kept of one in which changes were done.
use Rattle.std.proofs.Common.{◌≡◌, ℕ, zero, suc, ◌-◌, ◌≤◌, true, List, [], ◌∷◌, length, take, refl, sym, ap, subst, ◌∙◌, Option, Some, None, slice_set, length-set, arith}
use Rattle.grb_results.proofs.Prelude.{slice_get, IfNone, option_map, SparseMatrixView, SparseVectorView, Call, Object, after_all, Store, empty_store, Content, content_at, IsAt, MayRead, is_assembled_content, SharedContent, Learnt, Table, IsKept, IsLast, IsReady, ReadsObject, last_of, IsLearnt, IsApart, IsResult, IsTable, IsSettledAt, content_of, some_same}
use Rattle.grb_call.specs.declared.ids.MatrixId.{MatrixId}
use Rattle.grb_call.specs.declared.ids.VectorId.{VectorId}
use Rattle.grb_call.specs.declared.ids.Object.TheVariants as object
use Rattle.grb_objects.specs.declared.shared_content.SharedContent.TheVariants as shared
use Rattle.grb_results.proofs.Lists.{AtSet, Other, Here, set_at}
use Rattle.grb_results.proofs.Making.{at_of}
use Rattle.grb_results.proofs.Settled.{settled_set, within_still}

-- one result at most is the last of an object
module _ (t : Table) (o : Object) where
  one_last : (v w : SharedContent) → IsLast t o v → IsLast t o w → v ≡ w
  one_last v w is also =
      let next : suc is.at ≡ suc also.at = sym is.last ∙ also.last in
      let place : is.at ≡ also.at = omega (arith, next) in
      let stands : slice_get t.results.items is.at ≡ Some (Some w) = ap (slice_get t.results.items) place ∙ also.kept in
      some_same v w (some_same (Some v) (Some w) (sym is.kept ∙ stands))

  last_ready : (r : IsReady t o) → IsLast t o r.content
  last_ready r = record { at = r.at; last = r.last; kept = r.kept }

  assembled_by : (v : SharedContent) → IsLast t o v → IsReady t o → is_assembled_content v ≡ true
  assembled_by v is r = subst (λ (w : SharedContent). is_assembled_content w ≡ true) (one_last r.content v (last_ready r) is) r.assembled

-- what the object holds after the calls
module _ (o : Object) (v : SharedContent) (cs : List Call) (held : ◌≡◌ {A = Option Content} (Some (content_of v)) (content_at (after_all empty_store cs) o)) where
  pub held_at : IsAt (after_all empty_store cs) o v
  held_at = at_of (after_all empty_store cs) o v (sym held)

  pub may_read : (c : Call) → ReadsObject (after_all empty_store cs) o c → MayRead c v
  may_read c reads = record { store = after_all empty_store cs; object = o; about = reads.about; held = held_at; reads = reads.reads; no_size = reads.no_size; accepted = reads.accepted }

-- the last result of an object is of its sort
last_at : (cs : List Call) (t : Table) (o : Object) (v : SharedContent) → IsTable cs t → IsLast t o v → (s : Store) × IsAt s o v
last_at cs t o v is last =
    let since = is.learnt.since o in
    let s : Store = after_all empty_store (take (suc last.at) cs) in
    (s, at_of s o v (is.results last.at v last.kept o (since.changed last.at last.last)))

a_matrix : (s : Store) (a : MatrixId) (v : SharedContent) → IsAt s (object.Matrix a) v → is_assembled_content v ≡ true → ((m : SparseMatrixView) → v ≡ shared.Matrix m → m.assembled ≡ true → ⊥) → ⊥
a_matrix s a (shared.Matrix m) held done none = none m refl done
a_matrix s a (shared.Vector x) held done none = absurd held

a_vector : (s : Store) (u : VectorId) (v : SharedContent) → IsAt s (object.Vector u) v → is_assembled_content v ≡ true → ((x : SparseVectorView) → v ≡ shared.Vector x → x.assembled ≡ true → ⊥) → ⊥
a_vector s u (shared.Matrix m) held done none = absurd held
a_vector s u (shared.Vector x) held done none = none x refl done

pub no_matrix : (cs : List Call) (t : Table) (a : MatrixId) (v : SharedContent) → IsTable cs t → IsLast t (object.Matrix a) v → ((m : SparseMatrixView) → v ≡ shared.Matrix m → m.assembled ≡ true → ⊥) → IsReady t (object.Matrix a) → ⊥
no_matrix cs t a v is last none r =
    let at = last_at cs t (object.Matrix a) v is last in
    a_matrix at.0 a v at.1 (assembled_by t (object.Matrix a) v last r) none

pub no_vector : (cs : List Call) (t : Table) (u : VectorId) (v : SharedContent) → IsTable cs t → IsLast t (object.Vector u) v → ((x : SparseVectorView) → v ≡ shared.Vector x → x.assembled ≡ true → ⊥) → IsReady t (object.Vector u) → ⊥
no_vector cs t u v is last none r =
    let at = last_at cs t (object.Vector u) v is last in
    a_vector at.0 u v at.1 (assembled_by t (object.Vector u) v last r) none

-- what stands where a result stood
content_now : (q : Option SharedContent) (v : SharedContent) → option_map content_of q ≡ Some (content_of v) → (w : SharedContent) × (q ≡ Some w)
content_now None v e = cc
content_now (Some w) v e = (w, refl)

set_here : {X : Type 0} (xs : List X) (k : ℕ) (y x : X) → slice_get xs k ≡ Some x → slice_get (slice_set xs k y) k ≡ Some y
set_here [] k y x e = cc
set_here (z ∷ xs) zero y x e = refl
set_here (z ∷ xs) (suc k) y x e = set_here xs k y x e

-- a table in which changes were done in the last result of an object
module _ (old new : Table) (at : ℕ) (settled : IsSettledAt at old.results.items new.results.items) (learnt : new.learnt ≡ old.learnt) (o : Object) (last : last_of old.learnt.lasts o ≡ suc at) (kept : IsKept old o) where
  stood : settled.before ≡ Some kept.content
  stood =
      let next : suc kept.at ≡ suc at = sym kept.last ∙ last in
      let place : at ≡ kept.at = omega (arith, next) in
      some_same settled.before (Some kept.content) (sym settled.stood ∙ (ap (slice_get old.results.items) place ∙ kept.kept))

  stands : (v : SharedContent) × (settled.after ≡ Some v)
  stands = content_now settled.after kept.content (settled.same ∙ ap (option_map content_of) stood)

  now : slice_get new.results.items at ≡ Some (Some stands.0)
  now = ap (λ (rs : List (Option SharedContent)). slice_get rs at) settled.set ∙ (set_here old.results.items at settled.after settled.before settled.stood ∙ ap (λ (q : Option SharedContent). Some q) stands.1)

  last_now : last_of new.learnt.lasts o ≡ suc at
  last_now = ap (λ (l : Learnt). last_of l.lasts o) learnt ∙ last

  pub kept_settled : IsKept new o
  kept_settled = record { at = at; content = stands.0; last = last_now; kept = now }

  pub ready_settled : ((v : SharedContent) → slice_get new.results.items at ≡ Some (Some v) → is_assembled_content v ≡ true) → IsReady new o
  ready_settled done = record { at = at; content = stands.0; last = last_now; kept = now; assembled = done stands.0 now }

-- what stood where a result stands now
record Before (rs : List (Option SharedContent)) (k : ℕ) (v : SharedContent) : Type 0 where
  value : SharedContent
  stood : slice_get rs k ≡ Some (Some value)
  same : content_of v ≡ content_of value

content_before : (rs : List (Option SharedContent)) (k : ℕ) (q : Option SharedContent) (v : SharedContent) → slice_get rs k ≡ Some q → ◌≡◌ {A = Option Content} (Some (content_of v)) (option_map content_of q) → Before rs k v
content_before rs k None v stood e = cc
content_before rs k (Some w) v stood e = record { value = w; stood = stood; same = some_same (content_of v) (content_of w) e }

pub table_settled : (old new : Table) (at : ℕ) → IsSettledAt at old.results.items new.results.items → new.learnt ≡ old.learnt → new.settled ≤ old.settled → (cs : List Call) → IsTable cs old → IsApart old at → IsTable cs new
table_settled old new at settled learnt fewer cs was apart = record {
  learnt = subst (λ (l : Learnt). IsLearnt cs l) (sym learnt) was.learnt;
  results = λ k v stands. is k v (by k v (set_at old.results.items at settled.after k (Some v) (sym (ap (λ (rs : List (Option SharedContent)). slice_get rs k) settled.set) ∙ stands)));
  places = ap length settled.set ∙ (length-set old.results.items at settled.after ∙ (was.places ∙ ap (λ (l : Learnt). length l.nodes.items) (sym learnt)));
  settled = settled_set old new learnt fewer at settled.after apart settled.set was.settled;
  within = within_still old new learnt fewer was.within;
}
  where
    by : (k : ℕ) (v : SharedContent) → AtSet old.results.items at settled.after k (Some v) → Before old.results.items k v
    by k v (Other f) = record { value = v; stood = f; same = refl }
    by k v (Here n f) = content_before old.results.items k settled.before v (ap (slice_get old.results.items) n ∙ settled.stood) (ap (option_map content_of) f ∙ settled.same)

    is : (k : ℕ) (v : SharedContent) → Before old.results.items k v → IsResult cs k v
    is k v b o target = was.results k b.value b.stood o target ∙ ap (λ (x : Content). Some x) (sym b.same)

-- the place of the last result that is kept
pub place_last : (t : Table) (o : Object) (m : ℕ) → m ≡ last_of t.learnt.lasts o → IsKept t o → last_of t.learnt.lasts o ≡ suc (m - 1)
place_last t o m e kept =
    let same : m ≡ suc kept.at = e ∙ kept.last in
    let whole : m ≡ suc (m - 1) = omega (arith, same) in
    sym e ∙ whole

pub none_of : {X : Type 0} (P Q : Type 0) (q : Option X) → (P → Q) → IfNone q P → IfNone q Q
none_of P Q None f p = f p
none_of P Q (Some x) f p = tt
