-- A generation begins with what the calls in those before it left: along the pages of a chain no call is lost.
use Rattle.std.proofs.Common.{◌≡◌, ℕ, zero, suc, ◌+◌, ◌≤◌, List, [], ◌∷◌, ◌++◌, length, map, Option, Some, refl, sym, ap, subst, ◌∙◌, arith, append-nil, length-append}
use Rattle.std.specs.Prelude.{slice_get}
use mathlib.Core.List.{IsPrefix}
use Rattle.grb_chronicle.specs.Linked.{AreLinked, AreLinkedFrom, IsLast}
use Rattle.grb_chronicle.proofs.Places.{at_push, last_one, prefix_at}
use Rattle.grb_call.specs.declared.call.Call.{Call}
use Rattle.grb_call.specs.History.{after_all, store_of}
use Rattle.grb_call.specs.Store.{Store}
use Rattle.grb_call.proofs.Runs.{after_all-append}
use Rattle.grb_context.specs.Known.{known}
use Rattle.grb_numbers.specs.Inside.{inside, renamed}
use Rattle.grb_numbers.specs.Numbers.{NumbersSeen}
use Rattle.grb_numbers.specs.Seen.{AreNumbersOf, seen_store}
use Rattle.grb_numbers.proofs.Commuting.{calls_leave_the_same}
use Rattle.grb_numbers.proofs.Next.{next_numbers_show_the_same}
use Rattle.grb_numbers.proofs.Outwards.{freely, inside_all}
use Rattle.grb_generations.specs.Follows.{Follows}
use Rattle.grb_generations.specs.Keeping.{kept_store}
use Rattle.grb_generations.specs.Placed.{IsPlaced}
use Rattle.grb_generations.specs.Reasons.{IsMember}
use Rattle.grb_generations.specs.Seated.{Brings, GoesOn, Keeps, Seated, seen_of}
use Rattle.grb_generations.specs.declared.told.Told.{Told}
use Rattle.grb_generations.proofs.Chained.{all_commute}
use Rattle.grb_generations.proofs.Living.{kept_shows}

-- calls of a store, as users see them
abbrev pub free : NumbersSeen → List Call → List Call
free n cs = map (renamed (freely n)) cs

-- what calls leave is seen as what the calls leave of which these are the inside
pub seen_by : (n : NumbersSeen) (s : Store) (cs ds : List Call) → map (inside n) ds ≡ cs → length n.matrices.carried ≤ length s.matrices → length n.vectors.carried ≤ length s.vectors → AreNumbersOf n (after_all s cs)
    → seen_store n (after_all s cs) ≡ after_all (seen_store n s) ds
seen_by n s cs ds same matrices vectors are =
    ap (λ (es : List Call). seen_store n (after_all s es)) (sym same)
    ∙ all_commute calls_leave_the_same n s ds matrices vectors (subst (λ (es : List Call). AreNumbersOf n (after_all s es)) (sym same) are)

pub seen_after : (n : NumbersSeen) (s : Store) (cs : List Call) → length n.matrices.carried ≤ length s.matrices → length n.vectors.carried ≤ length s.vectors → AreNumbersOf n (after_all s cs)
    → seen_store n (after_all s cs) ≡ after_all (seen_store n s) (free n cs)
seen_after n s cs matrices vectors are = seen_by n s cs (free n cs) (inside_all n are.numbers cs) matrices vectors are

-- what a generation begins with, as users see it
abbrev begun_seen : Told → Store
begun_seen t = seen_store t.numbers (kept_store (store_of (known t.last)))

-- it begins with what some calls leave of this store
record ComesOf (s : Store) (t : Told) : Type 0 where
  pub calls : List Call
  pub is : begun_seen t ≡ after_all s calls
  pub numbers : AreNumbersOf t.numbers (kept_store (store_of (known t.last)))

-- a generation begins with what the one before it left
begins_as : (p t : Told) → Follows p t → begun_seen t ≡ seen_store p.numbers (store_of (known t.last))
begins_as p t f =
    ap (λ (n : NumbersSeen). seen_store n (kept_store (store_of (known t.last)))) f.numbers_are ∙ (kept_shows next_numbers_show_the_same p.numbers (store_of (known t.last)) f.numbered).store

begins_numbered : (p t : Told) → Follows p t → AreNumbersOf t.numbers (kept_store (store_of (known t.last)))
begins_numbered p t f =
    subst (λ (n : NumbersSeen). AreNumbersOf n (kept_store (store_of (known t.last)))) (sym f.numbers_are) (kept_shows next_numbers_show_the_same p.numbers (store_of (known t.last)) f.numbered).numbers

-- so does the one after it
comes_on : (s : Store) (t u : Told) → Follows t u → ComesOf s t → ComesOf s u
comes_on s t u f h =
    let begun : Store = kept_store (store_of (known t.last)) in
    let rest : List Call = f.went_on.0 in
    let left : store_of (known u.last) ≡ after_all begun rest = f.went_on.1 in
    let are : AreNumbersOf t.numbers (after_all begun rest) = subst (λ (x : Store). AreNumbersOf t.numbers x) left f.numbered in
    record {
      calls = h.calls ++ free t.numbers rest;
      is = begins_as t u f
          ∙ ap (seen_store t.numbers) left
          ∙ seen_after t.numbers begun rest h.numbers.matrices.carried h.numbers.vectors.carried are
          ∙ ap (λ (x : Store). after_all x (free t.numbers rest)) h.is
          ∙ sym (after_all-append s h.calls (free t.numbers rest));
      numbers = begins_numbered t u f;
    }

tail_of : List Told → List Told
tail_of [] = []
tail_of (t ∷ ts) = ts

last_later : (t v : Told) (later : List Told) (u : Told) → IsLast (t ∷ v ∷ later) u → IsLast (v ∷ later) u
unfolding tail_of
last_later t v later u ([], e) = absurd (omega (arith, ap length e))
last_later t v later u (b ∷ before, e) = (before, ap tail_of e)

-- and each later one
comes_along : (s : Store) (t : Told) (later : List Told) → ComesOf s t → AreLinkedFrom Follows t later → (u : Told) → IsLast (t ∷ later) u → ComesOf s u
comes_along s t [] h linked u last = subst (ComesOf s) (last_one (t ∷ []) t u ([], refl) last) h
comes_along s t (v ∷ later) h linked u last = comes_along s v later (comes_on s t v linked.0 h) linked.1 u (last_later t v later u last)

some_is : {X : Type 0} (x y : X) → ◌≡◌ {A = Option X} (Some x) (Some y) → x ≡ y
some_is x y e = cc

from_place : (s : Store) (t : Told) (later : List Told) → AreLinkedFrom Follows t later → (k : ℕ) (next : Told) → slice_get later k ≡ Some next → (u : Told) → IsLast (t ∷ later) u
    → ((p : Told) → slice_get (t ∷ later) k ≡ Some p → Follows p next → ComesOf s next) → ComesOf s u
from_place s t [] linked k next at u last start = absurd (cc at)
from_place s t (v ∷ later) linked zero next at u last start =
    let same : v ≡ next = some_is v next at in
    comes_along s v later (subst (ComesOf s) (sym same) (start t refl (subst (Follows t) same linked.0))) linked.1 u (last_later t v later u last)
from_place s t (v ∷ later) linked (suc k) next at u last start = from_place s v later linked.1 k next at u (last_later t v later u last) start

from_page : (s : Store) (told : List Told) → AreLinked Follows told → (k : ℕ) (next : Told) → slice_get told (suc k) ≡ Some next → (u : Told) → IsLast told u
    → ((p : Told) → slice_get told k ≡ Some p → Follows p next → ComesOf s next) → ComesOf s u
from_page s [] linked k next at u last start = absurd (cc at)
from_page s (t ∷ later) linked k next at u last start = from_place s t later linked k next at u last start

-- the own generation of a member stands at its place on each later page
own_at : (m : Seated) (told : List Told) → (is : IsPlaced m.chain.book m.context m.numbers m.generation m.page) → IsPrefix m.page.told told → slice_get told m.generation ≡ Some is.here.own
own_at m told is begins =
    let before : List Told = is.here.last.0 in
    let own : Told = is.here.own in
    let count : length before ≡ m.generation = omega (arith, ap length is.here.last.1, length-append before (own ∷ []), is.count) in
    let at : slice_get m.page.told m.generation ≡ Some own = (λ i. slice_get (is.here.last.1 i) (sym count i)) ∙ at_push before own in
    prefix_at m.page.told told m.generation own begins at

-- a member that moved sees what it saw, with what was entered in between
pub moves_keep : (m n : Seated) → IsMember m → (placed : IsPlaced n.chain.book n.context n.numbers n.generation n.page) → GoesOn n.chain.room n.chain.members placed.here.own n.pass → Brings m n.page → Keeps m n []
moves_keep m n is placed on brings =
    let told : List Told = n.page.told in
    let next : Told = brings.next in
    let own : Told = placed.here.own in
    let after_own : m.generation + 1 ≡ suc m.generation = omega arith in
    let at : slice_get told (suc m.generation) ≡ Some next = ap (slice_get told) (sym after_own) ∙ brings.at in
    let start : (p : Told) → slice_get told m.generation ≡ Some p → Follows p next → ComesOf (seen_of m) next = λ p at_p f.
    let same : p ≡ is.placed.here.own = some_is p is.placed.here.own (sym at_p ∙ own_at m told is.placed brings.begins) in
    let numbers : p.numbers ≡ m.numbers = ap (λ (t : Told). t.numbers) same ∙ is.placed.here.numbers_are in
    record { calls = []; is = begins_as p next f ∙ (λ i. seen_store (numbers i) (store_of (brings.all i))); numbers = begins_numbered p next f } in
    let came : ComesOf (seen_of m) own = from_page (seen_of m) told placed.linked m.generation next at own placed.here.last start in (
      came.calls,
      (λ i. seen_store (sym placed.here.numbers_are i) (on.begins.store_is i)) ∙ came.is ∙ ap (after_all (seen_of m)) (sym (append-nil came.calls)),
    )
