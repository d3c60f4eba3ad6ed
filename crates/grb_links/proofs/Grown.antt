-- What is learnt of the first calls of a list is learnt of each list that goes on from there.
use Rattle.std.proofs.Common.{◌≡◌, ℕ, zero, suc, ◌<◌, ◌≤◌, List, [], ◌∷◌, ◌++◌, length, take, refl, sym, ap, ◌∙◌, Some, arith}
use Rattle.std.specs.Prelude.{slice_get}
use Rattle.grb_call.specs.declared.call.Call.{Call}
use Rattle.grb_call.specs.declared.ids.Object.{Object}
use Rattle.grb_call.specs.Store.{empty_store, shapes_of}
use Rattle.grb_call.specs.History.{after_all}
use Rattle.grb_slices.specs.Content.{content_at}
use Rattle.grb_links.specs.declared.learnt.Learnt.{Learnt}
use Rattle.grb_links.specs.Lasts.{last_of}
use Rattle.grb_links.specs.Overwrites.{objects_needed, shape_needed}
use Rattle.grb_links.specs.Learnt.{AreOneHistory, AreSince, IsLearnt, IsSince, contents_after}
use Rattle.grb_links.proofs.Frame.{here_too, same_target}
use Rattle.grb_links.proofs.Lists.{within_of}

module _ (cs ds : List Call) (one : AreOneHistory cs ds) where
  same_contents : (k : ℕ) (o : Object) → k ≤ length cs → k ≤ length ds → contents_after ds k o ≡ contents_after cs k o
  same_contents k o mine theirs = ap (λ (xs : List Call). content_at (after_all empty_store xs) o) (sym (one k mine theirs))

  since_on : (n : ℕ) (o : Object) (m : ℕ) → n ≤ length cs → n ≤ length ds → IsSince cs n o m → IsSince ds n o m
  since_on n o m mine theirs since =
      let within : m ≤ n = since.within in
      record {
        within = within;
        same = same_contents n o mine theirs ∙ (since.same ∙ sym (same_contents m o (omega (arith, within, mine)) (omega (arith, within, theirs))));
        changed = λ j e. sym (same_target cs ds one j (omega (arith, e, within, mine)) (omega (arith, e, within, theirs))) ∙ since.changed j e;
      }

  are_since_on : (n : ℕ) (os : List Object) (ms : List ℕ) → n ≤ length cs → n ≤ length ds → AreSince cs n os ms → AreSince ds n os ms
  are_since_on n [] [] mine theirs since = tt
  are_since_on n [] (m ∷ ms) mine theirs since = (since.0, are_since_on n [] ms mine theirs since.1)
  are_since_on n (o ∷ os) [] mine theirs since = absurd since
  are_since_on n (o ∷ os) (m ∷ ms) mine theirs since = (since_on n o m mine theirs since.0, are_since_on n os ms mine theirs since.1)

  pub learnt_on : (t : Learnt) → length t.nodes.items ≤ length ds → IsLearnt cs t → IsLearnt ds t
  learnt_on t theirs was =
      let mine : length t.nodes.items ≤ length cs = was.within in
      record {
        within = theirs;
        shapes_are = was.shapes_are ∙ ap (λ (xs : List Call). shapes_of (after_all empty_store xs)) (one (length t.nodes.items) mine theirs);
        nodes_are = λ k node e.
            let near : k < length t.nodes.items = within_of t.nodes.items k node e in
            let in_mine : k < length cs = omega (arith, near, mine) in let in_theirs : k < length ds = omega (arith, near, theirs) in
            record {
              target_is = (was.nodes_are k node e).target_is ∙ same_target cs ds one k in_mine in_theirs;
              links_are = λ c here. are_since_on k (objects_needed c) node.links (omega (arith, in_mine)) (omega (arith, in_theirs)) ((was.nodes_are k node e).links_are c (here_too cs ds one k in_mine in_theirs ∙ here));
              within = (was.nodes_are k node e).within;
              shape_is = λ c here. (was.nodes_are k node e).shape_is c (here_too cs ds one k in_mine in_theirs ∙ here)
                  ∙ ap (λ (xs : List Call). shape_needed (shapes_of (after_all empty_store xs)) c) (one k (omega (arith, in_mine)) (omega (arith, in_theirs)));
            };
        since = λ o. since_on (length t.nodes.items) o (last_of t.lasts o) mine theirs (was.since o);
      }

pub take_front : (xs ys : List Call) (n : ℕ) → n ≤ length xs → take n xs ≡ take n (xs ++ ys)
take_front xs ys zero e = refl
take_front [] ys (suc n) e = absurd (omega (arith, e))
take_front (x ∷ xs) ys (suc n) e = ap (λ (zs : List Call). x ∷ zs) (take_front xs ys n (omega (arith, e)))

pub get_end : (xs : List Call) (x : Call) (n : ℕ) → n ≡ length xs → slice_get (xs ++ x ∷ []) n ≡ Some x
get_end [] x zero e = refl
get_end [] x (suc n) e = absurd (omega (arith, e))
get_end (y ∷ xs) x zero e = absurd (omega (arith, e))
get_end (y ∷ xs) x (suc n) e = get_end xs x n (omega (arith, e))
