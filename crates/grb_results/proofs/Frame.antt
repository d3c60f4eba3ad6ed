-- Results of calls, by what objects hold after some of the calls.
use Rattle.std.proofs.Common.{◌≡◌, ◌≢◌, ℕ, zero, suc, ◌+◌, ◌-◌, ◌<◌, ◌≤◌, true, false, List, [], ◌∷◌, ◌++◌, length, take, get_or, append_assoc, refl, sym, ap, subst, ◌∙◌, Option, Some, None, is_some, slice_set, length-set, arith}
use Rattle.grb_results.proofs.Prelude.{slice_get, IfSome, option_map, Call, Object, objects_read, refused_by_shapes, Store, empty_store, shapes_of, after_all, Content, Contents, content_at, outcome, Learnt, Table, SharedContent, last_of, is_among, AgreeOn, AreOneHistory, Follows, IsLearnt, contents_after, target_in, AreHeld, AreResults, AreTaken, IsApart, IsFrom, IsResult, IsTable, KeepsAll, LinksTo, MayMake, Mine, Theirs, forgets, objects_needed, IsEdit, content_of, dups_one, edits_one, needs_all, after_these, is_accepted, link_there, made_here, node_there, same_calls, same_target, since_at, since_long, since_of, some_target, store_before, the_target, there, end_none, some_same, take_suc, within_of}
use Rattle.grb_core.specs.declared.tests.Diagonal.{Diagonal}
use Rattle.grb_call.specs.declared.call.Call.TheVariants as call
use Rattle.grb_call.specs.declared.ids.Object.TheVariants as object
use Rattle.grb_call.specs.declared.ids.VectorId.{VectorId}
use Rattle.grb_slices.specs.Content.{diagonal_content}
use Rattle.grb_slices.proofs.Effects.{other}
use Rattle.grb_slices.proofs.Wants.{among_first, among_next}
use Rattle.grb_links.specs.declared.node.Node.{Node}
use Rattle.grb_slices.proofs.Refusals.{same_refusal}
use Rattle.grb_links.specs.Dup.{is_dup}
use Rattle.grb_results.proofs.Lists.{AtSet, Here, Other, set_at, take_whole}
use Rattle.grb_results.proofs.Settled.{settled_kept, settled_set, within_still}

-- a result more is kept
pub results_put : (cs : List Call) (rs : List (Option SharedContent)) (k : ℕ) (v : SharedContent) → AreResults cs rs → IsResult cs k v → AreResults cs (slice_set rs k (Some v))
results_put cs rs k v results is j w stands = by (set_at rs k (Some v) j (Some w) stands)
  where
    by : AtSet rs k (Some v) j (Some w) → IsResult cs j w
    by (Other f) = results j w f
    by (Here same f) = subst (λ (x : SharedContent). IsResult cs j x) (sym (some_same w v f)) (subst (λ (i : ℕ). IsResult cs i v) (sym same) is)

module _ (cs : List Call) (t : Table) (is : IsTable cs t) (k : ℕ) (near : k < length t.results.items) where
  pub in_nodes : k < length t.learnt.nodes.items
  in_nodes = let places = is.places in omega (arith, near, places)

  pub in_calls : k < length cs
  in_calls = let within = is.learnt.within in let nodes = in_nodes in omega (arith, within, nodes)

  pub link_leads : (j : ℕ) → LinksTo t k (suc j) → (j < k) × (is_some (target_in cs j) ≡ true)
  link_leads j links =
      let c = there cs k in_calls in
      let node = node_there t.learnt.nodes.items k in_nodes in
      let at = links node.0 node.1 in
      let one = since_at cs k (objects_needed c.0) node.0.links at.place j ((is.learnt.nodes_are k node.0 node.1).links_are c.0 c.1) at.is in
      let within : suc j ≤ k = one.1.within in
      (omega (arith, within), some_target cs j one.0 (one.1.changed j refl))

  -- what the only object that the call reads holds, is what its first link leads to
  pub follows_held : (c : Call) (o : Object) (before : ℕ) (v : SharedContent) → slice_get cs k ≡ Some c → objects_needed c ≡ o ∷ [] → Follows t.learnt k before → IsResult cs before v →
      contents_after cs k o ≡ Some (content_of v)
  follows_held c o before v here reads follows result =
      let node = node_there t.learnt.nodes.items k in_nodes in
      let since = since_of cs k (objects_needed c) node.0.links 0 (suc before) o ((is.learnt.nodes_are k node.0 node.1).links_are c here) (ap (λ (os : List Object). slice_get os 0) reads) (follows node.0 node.1) in
      since.same ∙ result o (since.changed before refl)

  pub reads_one : (c : Call) (before : ℕ) (v : SharedContent) (o : Object) → slice_get cs k ≡ Some c → forgets c ≡ false → objects_read c ≡ o ∷ [] → Follows t.learnt k before → IsResult cs before v →
      AreHeld (contents_after cs k) (objects_read c) (v ∷ [])
  reads_one c before v o here keeps reads follows result =
      subst (λ (os : List Object). AreHeld (contents_after cs k) os (v ∷ [])) (sym reads) (follows_held c o before v here (needs_all c keeps ∙ reads) follows result, tt)

  pub accepted_at : (c : Call) → slice_get cs k ≡ Some c → is_some (target_in cs k) ≡ true → refused_by_shapes (shapes_of (store_before cs k)) c ≡ None
  accepted_at c here accepted = let o = the_target (target_in cs k) accepted in (is_accepted cs k c o.0 here o.1).0

  pub may_make : (c : Call) (vs : List SharedContent) → slice_get cs k ≡ Some c → is_some (target_in cs k) ≡ true → AreHeld (contents_after cs k) (objects_read c) vs → MayMake c vs
  may_make c vs here accepted kept = record { store = store_before cs k; accepted = accepted_at c here accepted; held = kept }

  -- what the outcome of the call is, is its result
  pub result_is : (c : Call) (v : SharedContent) → slice_get cs k ≡ Some c → outcome (contents_after cs k) c ≡ Some (content_of v) → IsResult cs k v
  result_is c v here makes o target = made_here cs k c o here target ∙ makes

  pub some_result : (c : Call) (q : Option SharedContent) → slice_get cs k ≡ Some c → option_map content_of q ≡ outcome (contents_after cs k) c → IfSome q (IsResult cs k)
  some_result c None here makes = tt
  some_result c (Some v) here makes = result_is c v here (sym makes)

  -- an edit, and a dup, of what the first link leads to
  pub edit_held : (c : Call) (before : ℕ) (v : SharedContent) → slice_get cs k ≡ Some c → IsEdit c → Follows t.learnt k before → IsResult cs before v → AreHeld (contents_after cs k) (objects_read c) (v ∷ [])
  edit_held c before v here edits follows result = let one = edits_one c edits.0 in reads_one c before v one.object here edits.2 one.reads follows result

  pub edit_may : (c : Call) (before : ℕ) (v : SharedContent) → slice_get cs k ≡ Some c → is_some (target_in cs k) ≡ true → IsEdit c → Follows t.learnt k before → IsResult cs before v → MayMake c (v ∷ [])
  edit_may c before v here accepted edits follows result = may_make c (v ∷ []) here accepted (edit_held c before v here edits follows result)

  pub dup_result : (c : Call) (before : ℕ) (v : SharedContent) → slice_get cs k ≡ Some c → is_dup c ≡ true → Follows t.learnt k before → IsResult cs before v → IsResult cs k v
  dup_result c before v here dups follows result =
      let one = dups_one c dups in
      result_is c v here (one.outcome_is (contents_after cs k) ∙ follows_held c one.object before v here (needs_all c one.keeps ∙ one.reads) follows result)

  -- and a diagonal of it
  pub diagonal_result : (o : VectorId) (d : Diagonal) (before : ℕ) (v made : SharedContent) → slice_get cs k ≡ Some (call.Diag o d) → Follows t.learnt k before → IsResult cs before v →
      diagonal_content d (Some (content_of v)) ≡ Some (content_of made) → IsResult cs k made
  diagonal_result o d before v made here follows result is =
      result_is (call.Diag o d) made here (ap (diagonal_content d) (follows_held (call.Diag o d) (object.Vector o) before v here refl follows result) ∙ is)

  -- an object that the call reads, by its place
  pub read_held : (read : List Object) → ((c : Call) → slice_get cs k ≡ Some c → read ≡ objects_needed c) → (place d : ℕ) (node : Node) (o : Object) (v : SharedContent) → slice_get read place ≡ Some o →
      slice_get t.learnt.nodes.items k ≡ Some node → get_or node.links place d ≢ 0 → IsResult cs (get_or node.links place d - 1) v → contents_after cs k o ≡ Some (content_of v)
  read_held read reads place d node o v at here some result =
      let c = there cs k in_calls in
      let stands : slice_get (objects_needed c.0) place ≡ Some o = ap (λ (os : List Object). slice_get os place) (sym (reads c.0 c.1)) ∙ at in
      let since = (is.learnt.nodes_are k node here).links_are c.0 c.1 in
      let near : place < length (objects_needed c.0) = within_of (objects_needed c.0) place o stands in
      let long : length (objects_needed c.0) ≤ length node.links = since_long cs k (objects_needed c.0) node.links since in
      let link : slice_get node.links place ≡ Some (suc (get_or node.links place d - 1)) = link_there node.links place d (omega (arith, near, long)) some in
      let one = since_of cs k (objects_needed c.0) node.links place (suc (get_or node.links place d - 1)) o since stands link in
      one.same ∙ result o (one.changed (get_or node.links place d - 1) refl)

  -- objects that hold what the call reads do not refuse it
  pub not_refused : (s : Store) (c : Call) → slice_get cs k ≡ Some c → is_some (target_in cs k) ≡ true → AgreeOn (is_among (objects_read c)) (content_at s) (contents_after cs k) → refused_by_shapes (shapes_of s) c ≡ None
  not_refused s c here accepted agree = same_refusal s (store_before cs k) c agree ∙ accepted_at c here accepted

-- one object more that the bench holds
pub more_agree : (r t : Contents) (os ps : List Object) (k : ℕ) (o : Object) → slice_get ps k ≡ Some o → AgreeOn (is_among ((os ++ take k ps) ++ o ∷ [])) r t → AgreeOn (is_among (os ++ take (k + 1) ps)) r t
more_agree r t os ps k o at agree =
    let next : suc k ≡ k + 1 = omega arith in
    let one : (os ++ take k ps) ++ o ∷ [] ≡ os ++ take (suc k) ps = append_assoc os (take k ps) (o ∷ []) ∙ ap (λ (qs : List Object). os ++ qs) (sym (take_suc ps k o at)) in
    subst (λ (j : ℕ). AgreeOn (is_among (os ++ take j ps)) r t) next (subst (λ (qs : List Object). AgreeOn (is_among qs) r t) one agree)

pub agree_first : (r t : Contents) (os : List Object) → AgreeOn (is_among os) r t → AgreeOn (is_among (os ++ [])) r t
agree_first r t os agree = subst (λ (ps : List Object). AgreeOn (is_among ps) r t) (sym (end_none os)) agree

pub among_at : (os : List Object) (k : ℕ) (o : Object) → slice_get os k ≡ Some o → is_among os o ≡ true
among_at [] k o e = cc
among_at (p ∷ os) zero o e = subst (λ (q : Object). is_among (q ∷ os) o ≡ true) (sym (some_same p o e)) (among_first o os)
among_at (p ∷ os) (suc k) o e = among_next o p os (among_at os k o e)

pub all_agree : (r t : Contents) (os ps : List Object) (k : ℕ) → length ps ≤ k → AgreeOn (is_among (os ++ take k ps)) r t → AgreeOn (is_among (os ++ ps)) r t
all_agree r t os ps k all agree = subst (λ (qs : List Object). AgreeOn (is_among (os ++ qs)) r t) (take_whole ps k all) agree

none_among : (p : Object) → is_among [] p ≡ true → ⊥
none_among p e = cc

pub agree_none : (r t : Contents) → AgreeOn (is_among []) r t
agree_none r t p wanted = absurd (none_among p wanted)

-- a table in which a result more is kept
pub table_put : (cs : List Call) (old new : Table) (k : ℕ) (v : SharedContent) → IsTable cs old → IsApart old k → IsResult cs k v → new.learnt ≡ old.learnt → new.settled ≤ old.settled →
    new.results.items ≡ slice_set old.results.items k (Some v) → IsTable cs new
table_put cs old new k v was apart is learnt fewer results =
    let count : length new.results.items ≡ length old.results.items = ap length results ∙ length-set old.results.items k (Some v) in
    record {
      learnt = subst (λ (l : Learnt). IsLearnt cs l) (sym learnt) was.learnt;
      results = subst (λ (rs : List (Option SharedContent)). AreResults cs rs) (sym results) (results_put cs old.results.items k v was.results is);
      places = count ∙ (was.places ∙ ap (λ (l : Learnt). length l.nodes.items) (sym learnt));
      settled = settled_set old new learnt fewer k (Some v) apart results was.settled;
      within = within_still old new learnt fewer was.within;
    }

-- the answer: what an object holds after all calls is the result of the call that last changed it
pub answer_is : (cs : List Call) (t : Table) (o : Object) (m k : ℕ) (v : SharedContent) → IsTable cs t → length t.learnt.nodes.items ≡ length cs → m ≡ last_of t.learnt.lasts o → m ≡ suc k →
    slice_get t.results.items k ≡ Some (Some v) → ◌≡◌ {A = Option Content} (Some (content_of v)) (content_at (after_all empty_store cs) o)
answer_is cs t o m k v is all last e stands =
    let since = is.learnt.since o in
    let e2 : last_of t.learnt.lasts o ≡ suc k = sym last ∙ e in
    sym (ap (λ (s : Store). content_at s o) (sym (after_these cs (length t.learnt.nodes.items) all)) ∙ (since.same ∙ (ap (λ (j : ℕ). contents_after cs j o) e2
    ∙ is.results k v stands o (since.changed k e2))))

pub last_leads : (cs : List Call) (t : Table) (o : Object) (m k : ℕ) → IsTable cs t → m ≡ last_of t.learnt.lasts o → m ≡ suc k → (k < length t.results.items) × (is_some (target_in cs k) ≡ true)
last_leads cs t o m k is last e =
    let since = is.learnt.since o in
    let e2 : last_of t.learnt.lasts o ≡ suc k = sym last ∙ e in
    let within : last_of t.learnt.lasts o ≤ length t.learnt.nodes.items = since.within in
    let places = is.places in
    (omega (arith, within, e2, places), some_target cs k o (since.changed k e2))

-- nothing is kept yet
pub results_none : (cs : List Call) (rs : List (Option SharedContent)) → rs ≡ [] → AreResults cs rs
results_none cs rs none k v stands = absurd (no k (sym (ap (λ (xs : List (Option SharedContent)). slice_get xs k) none) ∙ stands))
  where
    no : (j : ℕ) → ◌≡◌ {A = Option (Option SharedContent)} (slice_get [] j) (Some (Some v)) → ⊥
    no j e = cc

-- a result of a call is that of the same call in another list that begins as this one
module _ (cs ds : List Call) (one : AreOneHistory cs ds) (k : ℕ) (mine : k < length cs) (theirs : k < length ds) where
  pub same_result : (v : SharedContent) → IsResult ds k v → IsResult cs k v
  same_result v is o target = ap (λ (xs : List Call). content_at (after_all empty_store xs) o) (same_calls cs ds one k mine theirs) ∙ is o (sym (same_target cs ds one k mine theirs) ∙ target)

result_as : (cs : List Call) (k : ℕ) (v w : SharedContent) → content_of v ≡ content_of w → IsResult cs k w → IsResult cs k v
result_as cs k v w same is o target = is o target ∙ ap (λ (x : Content). Some x) (sym same)

pub table_taken : (cs ds : List Call) (old theirs new : Table) → IsTable cs old → IsTable ds theirs → AreOneHistory cs ds → AreTaken old.results.items theirs.results.items new.results.items →
    new.learnt ≡ old.learnt → length new.results.items ≡ length old.results.items → new.settled ≤ old.settled → KeepsAll old new → IsTable cs new
table_taken cs ds old theirs new was other one taken learnt count fewer keeps = record {
  learnt = subst (λ (l : Learnt). IsLearnt cs l) (sym learnt) was.learnt;
  results = λ k v stands. by k v (within_of new.results.items k (Some v) stands) (taken k v stands);
  places = count ∙ (was.places ∙ ap (λ (l : Learnt). length l.nodes.items) (sym learnt));
  settled = settled_kept old new learnt fewer keeps was.settled;
  within = within_still old new learnt fewer was.within;
}
  where
    by : (k : ℕ) (v : SharedContent) → k < length new.results.items → IsFrom old.results.items theirs.results.items k v → IsResult cs k v
    by k v near (Mine f) = was.results k v f
    by k v near (Theirs w f same) =
        let there = within_of theirs.results.items k (Some w) f in
        let places = was.places in let places_there = other.places in let within = was.learnt.within in let within_there = other.learnt.within in
        result_as cs k v w same (same_result cs ds one k (omega (arith, near, count, places, within)) (omega (arith, there, places_there, within_there)) w (other.results k w f))

pub taken_more : (first theirs old new : List (Option SharedContent)) → AreTaken first theirs old → AreTaken old theirs new → AreTaken first theirs new
taken_more first theirs old new was is k v stands = by (is k v stands)
  where
    by : IsFrom old theirs k v → IsFrom first theirs k v
    by (Mine f) = was k v f
    by (Theirs w f same) = Theirs w f same

pub taken_put : (mine theirs new : List (Option SharedContent)) (at : ℕ) (v w : SharedContent) → slice_get theirs at ≡ Some (Some w) → content_of v ≡ content_of w → new ≡ slice_set mine at (Some v) → AreTaken mine theirs new
taken_put mine theirs new at v w stands same put k x e = by (set_at mine at (Some v) k (Some x) (sym (ap (λ (rs : List (Option SharedContent)). slice_get rs k) put) ∙ e))
  where
    by : AtSet mine at (Some v) k (Some x) → IsFrom mine theirs k x
    by (Other f) = Mine f
    by (Here n f) = Theirs w (ap (slice_get theirs) n ∙ stands) (ap content_of (some_same x v f) ∙ same)

-- a table in which a place was emptied
pub table_emptied : (cs : List Call) (old new : Table) (k : ℕ) → IsTable cs old → IsApart old k → new.learnt ≡ old.learnt → new.settled ≤ old.settled → new.results.items ≡ slice_set old.results.items k None → IsTable cs new
table_emptied cs old new k was apart learnt fewer results =
    let count : length new.results.items ≡ length old.results.items = ap length results ∙ length-set old.results.items k None in
    record {
      learnt = subst (λ (l : Learnt). IsLearnt cs l) (sym learnt) was.learnt;
      results = λ j v stands. by j v (set_at old.results.items k None j (Some v) (sym (ap (λ (rs : List (Option SharedContent)). slice_get rs j) results) ∙ stands));
      places = count ∙ (was.places ∙ ap (λ (l : Learnt). length l.nodes.items) (sym learnt));
      settled = settled_set old new learnt fewer k None apart results was.settled;
      within = within_still old new learnt fewer was.within;
    }
  where
    by : (j : ℕ) (v : SharedContent) → AtSet old.results.items k None j (Some v) → IsResult cs j v
    by j v (Other f) = was.results j v f
    by j v (Here n f) = cc

pub taken_is : (cs : List Call) (t : Table) (k : ℕ) (q : Option SharedContent) → IsTable cs t → slice_get t.results.items k ≡ Some q → IfSome q (IsResult cs k)
taken_is cs t k None is e = tt
taken_is cs t k (Some v) is e = is.results k v e
