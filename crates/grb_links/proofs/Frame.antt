-- What an object holds after some of the calls: it changes at calls whose target it is, and nowhere else.
use Rattle.std.proofs.Common.{◌≡◌, ◌≢◌, ℕ, zero, suc, ◌+◌, ◌-◌, ◌<◌, ◌≤◌, Bool, true, false, if◌then◌else◌, List, [], ◌∷◌, ◌++◌, length, take, get_or, refl, sym, ap, subst, ◌∙◌, Option, Some, None, is_some, arith}
use Rattle.std.specs.Prelude.{slice_get}
use Rattle.std.specs.Option.{option_map_or}
use Rattle.std.proofs.lemmas.List.{length_push}
use Rattle.std.proofs.lemmas.Option.{slice_get-get_or}
use Rattle.grb_call.specs.declared.call.Call.{Call}
use Rattle.grb_call.specs.declared.ids.Object.{Object}
use Rattle.grb_call.specs.declared.ids.Object.TheVariants as object
use Rattle.grb_call.specs.Shapes.{ObjectShapes}
use Rattle.grb_call.specs.Refused.{refused_by_shapes, shapes_after}
use Rattle.grb_call.specs.Status.{is_same_object}
use Rattle.grb_call.specs.Store.{Store, empty_store, shapes_of}
use Rattle.grb_call.specs.After.{after}
use Rattle.grb_call.specs.History.{after_all}
use Rattle.grb_call.proofs.Runs.{after_all-append}
use Rattle.grb_call.proofs.ShapesAfter.{shapes_of-after}
use Rattle.grb_slices.specs.Content.{content_at, target_of, effective_target, outcome}
use Rattle.grb_slices.proofs.Effects.{own, other, effective}
use Rattle.grb_slices.proofs.Wants.{is_same_object-self, is_same_object-true}
use Rattle.grb_links.specs.declared.learnt.Learnt.{Learnt}
use Rattle.grb_links.specs.declared.node.Node.{Node}
use Rattle.grb_links.specs.Lasts.{AreLinks, last_of, last_with}
use Rattle.grb_links.specs.Learnt.{AreOneHistory, AreSince, IsLearnt, IsNode, IsSince, contents_after, target_in}
use Rattle.grb_links.specs.Overwrites.{objects_needed, shape_needed, shape_noted}
use Rattle.grb_links.proofs.Lists.{AtPush, Before, Last, get_take, pushed_at, some_same, take_suc, within_of}

-- the store before the call at a place
abbrev pub store_before : List Call → ℕ → Store
store_before cs k = after_all empty_store (take k cs)

pub after_suc : (cs : List Call) (k : ℕ) (c : Call) → slice_get cs k ≡ Some c → store_before cs (suc k) ≡ after (store_before cs k) c
after_suc cs k c here = ap (after_all empty_store) (take_suc cs k c here) ∙ after_all-append empty_store (take k cs) (c ∷ [])

pub target_here : (cs : List Call) (k : ℕ) (c : Call) → slice_get cs k ≡ Some c → target_in cs k ≡ effective_target (shapes_of (store_before cs k)) c
target_here cs k c here = ap (λ (q : Option Call). option_map_or (effective_target (shapes_of (store_before cs k))) q None) here

module _ (cs : List Call) (k : ℕ) (c : Call) (o : Object) (here : slice_get cs k ≡ Some c) where
  pub stays : target_in cs k ≢ Some o → contents_after cs (suc k) o ≡ contents_after cs k o
  stays beside = ap (λ (s : Store). content_at s o) (after_suc cs k c here) ∙ other (store_before cs k) c o (λ e. beside (target_here cs k c here ∙ e))

  pub is_accepted : target_in cs k ≡ Some o → (refused_by_shapes (shapes_of (store_before cs k)) c ≡ None) × (target_of (shapes_of (store_before cs k)) c ≡ Some o)
  is_accepted target = effective (shapes_of (store_before cs k)) c o (sym (target_here cs k c here) ∙ target)

  pub made_here : target_in cs k ≡ Some o → contents_after cs (suc k) o ≡ outcome (contents_after cs k) c
  made_here target =
      let taken = is_accepted target in
      ap (λ (s : Store). content_at s o) (after_suc cs k c here) ∙ own (store_before cs k) c o taken.0 taken.1

-- which call last changed an object, one call further
pub since_now : (cs : List Call) (n : ℕ) (o : Object) → target_in cs n ≡ Some o → IsSince cs (suc n) o (suc n)
since_now cs n o target = record {
  within = omega arith;
  same = refl;
  changed = λ k e. let same : n ≡ k = omega (arith, e) in subst (λ (j : ℕ). target_in cs j ≡ Some o) same target;
}

pub since_still : (cs : List Call) (n : ℕ) (c : Call) (o : Object) (m : ℕ) → slice_get cs n ≡ Some c → target_in cs n ≢ Some o → IsSince cs n o m → IsSince cs (suc n) o m
since_still cs n c o m here beside was = record {
  within = let w = was.within in omega (arith, w);
  same = stays cs n c o here beside ∙ was.same;
  changed = was.changed;
}

-- that of each object that a call reads
pub are_since : (cs : List Call) (n : ℕ) (f : Object → ℕ) → ((o : Object) → IsSince cs n o (f o)) → (os : List Object) (ms : List ℕ) → AreLinks f os ms → AreSince cs n os ms
are_since cs n f since [] [] links = tt
are_since cs n f since [] (m ∷ ms) links = (links.0, are_since cs n f since [] ms links.1)
are_since cs n f since (o ∷ os) [] links = absurd links
are_since cs n f since (o ∷ os) (m ∷ ms) links = (subst (λ (k : ℕ). IsSince cs n o k) (sym links.0) (since o), are_since cs n f since os ms links.1)

apart_object : (o p : Object) → is_same_object o p ≡ false → o ≢ p
apart_object o p apart e = let same : is_same_object o p ≡ true = subst (λ (q : Object). is_same_object o q ≡ true) e (is_same_object-self o) in cc

-- a count of objects is no more than the calls, of one call more
pub still_few : (f : ObjectShapes → ℕ) (u v w : ObjectShapes) (c : Call) (xs ys zs : List Node) (x : Node) → f (shapes_after v c) ≤ f v + 1 → v ≡ u → w ≡ shapes_after v c →
    ys ≡ xs → zs ≡ ys ++ x ∷ [] → f u ≤ length xs → f w ≤ length zs
still_few f u v w c xs ys zs x grows same shaped reserved pushed few =
    let more : length zs ≡ length ys + 1 = ap length pushed ∙ length_push ys x in
    omega (arith, grows, ap f same, ap f shaped, ap length reserved, more, few)

-- one call more is learnt
module _ (cs : List Call) (old new : Learnt) (c : Call) (node : Node) (was : IsLearnt cs old) (here : slice_get cs (length old.nodes.items) ≡ Some c)
    (target : node.target ≡ effective_target old.shapes.objects c) (links : AreLinks (last_of old.lasts) (objects_needed c) node.links)
    (noted : node.noted ≤ length new.shapes_noted.items) (shape : shape_noted new.shapes_noted.items node.noted ≡ shape_needed old.shapes.objects c)
    (kept : (m : ℕ) → m ≤ length old.shapes_noted.items → shape_noted new.shapes_noted.items m ≡ shape_noted old.shapes_noted.items m) (longer : length old.shapes_noted.items ≤ length new.shapes_noted.items)
    (nodes : new.nodes.items ≡ old.nodes.items ++ node ∷ []) (shaped : new.shapes.objects ≡ shapes_after old.shapes.objects c)
    (more : ℕ) (one_more : more ≡ suc (length old.nodes.items)) (lasts : (o : Object) → last_of new.lasts o ≡ last_with node.target more (last_of old.lasts) o) where
  abbrev n : ℕ
  n = length old.nodes.items

  count : length new.nodes.items ≡ suc n
  count = let more : length new.nodes.items ≡ n + 1 = ap length nodes ∙ length_push old.nodes.items node in omega (arith, more)

  target_is : node.target ≡ target_in cs n
  target_is = target ∙ (ap (λ u. effective_target u c) was.shapes_are ∙ sym (target_here cs n c here))

  shapes_now : new.shapes.objects ≡ shapes_of (store_before cs (suc n))
  shapes_now = shaped ∙ (ap (λ u. shapes_after u c) was.shapes_are ∙ (sym (shapes_of-after (store_before cs n) c) ∙ ap shapes_of (sym (after_suc cs n c here))))

  node_of : IsNode cs new.shapes_noted.items n node
  node_of = record {
    target_is = target_is;
    links_are = λ d is. subst (λ (x : Call). AreSince cs n (objects_needed x) node.links) (some_same c d (sym here ∙ is))
        (are_since cs n (last_of old.lasts) was.since (objects_needed c) node.links links);
    within = noted;
    shape_is = λ d is. subst (λ (x : Call). shape_noted new.shapes_noted.items node.noted ≡ shape_needed (shapes_of (store_before cs n)) x) (some_same c d (sym here ∙ is))
        (shape ∙ ap (λ (u : ObjectShapes). shape_needed u c) was.shapes_are);
  }

  -- a node of before
  node_kept : (k : ℕ) (x : Node) → IsNode cs old.shapes_noted.items k x → IsNode cs new.shapes_noted.items k x
  node_kept k x is = record {
    target_is = is.target_is;
    links_are = is.links_are;
    within = let w = is.within in omega (arith, w, longer);
    shape_is = λ d at. kept x.noted is.within ∙ is.shape_is d at;
  }

  node_at : (k : ℕ) (x : Node) → slice_get new.nodes.items k ≡ Some x → IsNode cs new.shapes_noted.items k x
  node_at k x e = by (pushed_at old.nodes.items node k x (sym (ap (λ (xs : List Node). slice_get xs k) nodes) ∙ e))
    where
      by : AtPush old.nodes.items node k x → IsNode cs new.shapes_noted.items k x
      by (Before f) = node_kept k x (was.nodes_are k x f)
      by (Last m f) = subst (λ (y : Node). IsNode cs new.shapes_noted.items k y) (sym f) (subst (λ (j : ℕ). IsNode cs new.shapes_noted.items j node) (sym m) node_of)

  since_by : (o : Object) (q : Option Object) → node.target ≡ q → IsSince cs (suc n) o (last_with q (suc n) (last_of old.lasts) o)
  since_by o None none = since_still cs n c o (last_of old.lasts o) here (λ e. no o (sym (sym target_is ∙ none) ∙ e)) (was.since o)
    where
      no : (p : Object) → ◌≡◌ {A = Option Object} None (Some p) → ⊥
      no p e = cc
  since_by o (Some p) is = by (is_same_object p o) refl
    where
      changed : target_in cs n ≡ Some p
      changed = sym target_is ∙ is

      by : (b : Bool) → is_same_object p o ≡ b → IsSince cs (suc n) o (if b then suc n else last_of old.lasts o)
      by true same = since_now cs n o (changed ∙ ap (λ (q : Object). Some q) (is_same_object-true p o same))
      by false apart = since_still cs n c o (last_of old.lasts o) here (λ e. apart_object p o apart (some_same p o (sym changed ∙ e))) (was.since o)

  pub learns : IsLearnt cs new
  learns = record {
    within = let w = within_of cs n c here in omega (arith, count, w);
    shapes_are = shapes_now ∙ ap (λ (j : ℕ). shapes_of (store_before cs j)) (sym count);
    nodes_are = node_at;
    since = λ o. subst (λ (j : ℕ). IsSince cs j o (last_of new.lasts o)) (sym count) (subst (λ (m : ℕ). IsSince cs (suc n) o m) (sym (lasts o ∙ ap (λ (m : ℕ). last_with node.target m (last_of old.lasts) o) one_more)) (since_by o node.target refl));
  }

-- a link of a call leads to an earlier call, which has a target
pub since_at : (cs : List Call) (k : ℕ) (os : List Object) (ms : List ℕ) (j m : ℕ) → AreSince cs k os ms → slice_get ms j ≡ Some (suc m) → (o : Object) × IsSince cs k o (suc m)
since_at cs k [] [] j m since e = cc
since_at cs k [] (l ∷ ms) zero m since e = let zero_there : l ≡ 0 = since.0 in let same : l ≡ suc m = some_same l (suc m) e in absurd (omega (arith, zero_there, same))
since_at cs k [] (l ∷ ms) (suc j) m since e = since_at cs k [] ms j m since.1 e
since_at cs k (o ∷ os) [] j m since e = absurd since
since_at cs k (o ∷ os) (l ∷ ms) zero m since e = (o, subst (λ (i : ℕ). IsSince cs k o i) (some_same l (suc m) e) since.0)
since_at cs k (o ∷ os) (l ∷ ms) (suc j) m since e = since_at cs k os ms j m since.1 e

-- of the object at a place of the list
pub since_of : (cs : List Call) (k : ℕ) (os : List Object) (ms : List ℕ) (j m : ℕ) (o : Object) → AreSince cs k os ms → slice_get os j ≡ Some o → slice_get ms j ≡ Some m → IsSince cs k o m
since_of cs k [] ms j m o since e f = cc
since_of cs k (p ∷ os) [] j m o since e f = absurd since
since_of cs k (p ∷ os) (l ∷ ms) zero m o since e f = subst (λ (q : Object). IsSince cs k q m) (some_same p o e) (subst (λ (i : ℕ). IsSince cs k p i) (some_same l m f) since.0)
since_of cs k (p ∷ os) (l ∷ ms) (suc j) m o since e f = since_of cs k os ms j m o since.1 e f

pub since_long : (cs : List Call) (k : ℕ) (os : List Object) (ms : List ℕ) → AreSince cs k os ms → length os ≤ length ms
since_long cs k [] ms since = omega arith
since_long cs k (o ∷ os) [] since = absurd since
since_long cs k (o ∷ os) (m ∷ ms) since = let rest : length os ≤ length ms = since_long cs k os ms since.1 in omega (arith, rest)

pub link_there : (ms : List ℕ) (k d : ℕ) → k < length ms → get_or ms k d ≢ 0 → slice_get ms k ≡ Some (suc (get_or ms k d - 1))
link_there ms k d near some = let whole : get_or ms k d ≡ suc (get_or ms k d - 1) = omega (arith, some) in slice_get-get_or ms k d near ∙ ap (λ (n : ℕ). Some n) whole

pub there : (cs : List Call) (k : ℕ) → k < length cs → (c : Call) × (slice_get cs k ≡ Some c)
there [] k h = absurd (omega arith)
there (c ∷ cs) zero h = (c, refl)
there (c ∷ cs) (suc k) h = there cs k (omega arith)

pub node_there : (ns : List Node) (k : ℕ) → k < length ns → (x : Node) × (slice_get ns k ≡ Some x)
node_there [] k h = absurd (omega arith)
node_there (c ∷ cs) zero h = (c, refl)
node_there (c ∷ cs) (suc k) h = node_there cs k (omega arith)

pub some_target : (cs : List Call) (k : ℕ) (o : Object) → target_in cs k ≡ Some o → is_some (target_in cs k) ≡ true
some_target cs k o e = ap is_some e

pub the_target : (q : Option Object) → is_some q ≡ true → (o : Object) × (q ≡ Some o)
the_target None e = cc
the_target (Some o) e = (o, refl)

-- an object that is not there
first_none : (o : Object) → content_at empty_store o ≡ None
first_none (object.Matrix a) = refl
first_none (object.Vector v) = refl

pub none_since : (cs : List Call) (n : ℕ) (o : Object) (m : ℕ) → IsSince cs n o m → m ≡ 0 → contents_after cs n o ≡ None
none_since cs n o m since e = since.same ∙ (ap (λ (j : ℕ). contents_after cs j o) e ∙ first_none o)

pub take_all : (cs : List Call) (n : ℕ) → n ≡ length cs → take n cs ≡ cs
take_all [] zero e = refl
take_all [] (suc n) e = refl
take_all (c ∷ cs) zero e = absurd (omega (arith, e))
take_all (c ∷ cs) (suc n) e = ap (λ (ds : List Call). c ∷ ds) (take_all cs n (omega (arith, e)))

pub after_these : (cs : List Call) (n : ℕ) → n ≡ length cs → store_before cs n ≡ after_all empty_store cs
after_these cs n e = ap (after_all empty_store) (take_all cs n e)

-- a call is the same in another list that begins as this one
module _ (cs ds : List Call) (one : AreOneHistory cs ds) (k : ℕ) (mine : k < length cs) (theirs : k < length ds) where
  pub same_calls : take (suc k) cs ≡ take (suc k) ds
  same_calls = one (suc k) (omega (arith, mine)) (omega (arith, theirs))

  before : take k cs ≡ take k ds
  before = one k (omega (arith, mine)) (omega (arith, theirs))

  pub here_too : slice_get cs k ≡ slice_get ds k
  here_too = sym (get_take cs k) ∙ (ap (λ (xs : List Call). slice_get xs k) same_calls ∙ get_take ds k)

  pub same_target : target_in cs k ≡ target_in ds k
  same_target = ap (λ (xs : List Call). option_map_or (effective_target (shapes_of (after_all empty_store xs))) (slice_get cs k) None) before
      ∙ ap (λ (q : Option Call). option_map_or (effective_target (shapes_of (after_all empty_store (take k ds)))) q None) here_too
