-- What a member sees after a call is what it saw before it, with calls in between and this one.
use Rattle.std.proofs.Common.{◌≡◌, Bool, true, false, if◌then◌else◌, List, [], ◌∷◌, ◌++◌, map, refl, sym, ap, subst, ◌∙◌, arith, append_assoc, append-nil, inl, inr}
use Rattle.grb_order.specs.Order.{room_of}
use Rattle.grb_call.specs.declared.call.Call.{Call}
use Rattle.grb_call.specs.History.{Entry, History, after_all, calls_of, store_of}
use Rattle.grb_call.specs.Store.{Store}
use Rattle.grb_call.proofs.Runs.{after_all-append}
use Rattle.grb_context.specs.Answered.{Answered, Promise}
use Rattle.grb_context.specs.Explains.{Answer, entered_calls, is_entered}
use Rattle.grb_context.specs.Known.{IsPassOf, Knowing, Shared, known}
use Rattle.grb_context.proofs.Promised.{promise}
use Rattle.grb_numbers.specs.Inside.{inside, outside_reply}
use Rattle.grb_numbers.specs.Numbers.{NumbersSeen}
use Rattle.grb_numbers.specs.Seen.{AreNumbersOf, seen_store}
use Rattle.grb_numbers.proofs.Outwards.{inside_all}
use Rattle.grb_generations.specs.Keeping.{AreNumbersFor}
use Rattle.grb_generations.specs.Reasons.{IsMember}
use Rattle.grb_generations.specs.Seated.{Calls, CallsHere, CallsThere, Comes, IsThere, Keeps, Moves, Seated, Stays, moved, next, seen_of, stayed, unmade}
use Rattle.grb_generations.proofs.AtEnd.{GoesFurther, called_further, still_numbered}
use Rattle.grb_generations.proofs.Chained.{calls_of-append, store_of-append}
use Rattle.grb_generations.proofs.Keeping.{numbers_within}
use Rattle.grb_generations.proofs.Lasting.{free, seen_by}
use Rattle.grb_generations.proofs.Moving.{entered_inside}

-- what is needed of a member to see on from where it sits
record Stands (m : Seated) : Type 0 where
  pub pass : IsPassOf m.context m.pass
  pub numbers : AreNumbersFor m.numbers m.pass

member_stands : (m : Seated) → IsMember m → Stands m
member_stands m is = record { pass = is.pass; numbers = is.numbers }

keeps_then : (old mid new : Seated) (cs : List Call) → Keeps old mid [] → Keeps mid new cs → Keeps old new cs
keeps_then old mid new cs k l = (
  k.0 ++ l.0,
  l.1
      ∙ ap (λ (s : Store). after_all s (l.0 ++ cs)) (k.1 ∙ ap (after_all (seen_of old)) (append-nil k.0))
      ∙ sym (after_all-append (seen_of old) k.0 (l.0 ++ cs))
      ∙ ap (after_all (seen_of old)) (sym (append_assoc k.0 l.0 cs)),
)

map-append : {X Y : Type 0} (f : X → Y) (xs ys : List X) → map f (xs ++ ys) ≡ map f xs ++ map f ys
map-append f [] ys = refl
map-append f (x ∷ xs) ys = ap (λ zs. f x ∷ zs) (map-append f xs ys)

-- what a call leaves of what its pass knew
stepped : (g learnt : History) (e : Entry) (b : Bool) → store_of (if b then (g ++ learnt) ++ e ∷ [] else g ++ learnt) ≡ after_all (store_of g) (calls_of learnt ++ (if b then e.1 ∷ [] else []))
stepped g learnt e true = ap store_of (append_assoc g learnt (e ∷ [])) ∙ store_of-append g (learnt ++ e ∷ []) ∙ ap (after_all (store_of g)) (calls_of-append learnt (e ∷ []))
stepped g learnt e false = store_of-append g learnt ∙ ap (after_all (store_of g)) (sym (append-nil (calls_of learnt)))

made_inside : (n : NumbersSeen) (c : Call) (b : Bool) → map (inside n) (if b then c ∷ [] else []) ≡ (if b then inside n c ∷ [] else [])
made_inside n c true = refl
made_inside n c false = refl

-- a call of a pass, seen from outside: the calls of others that it learnt, and these, which are its own inside
seen_called : (context : Shared) (n : NumbersSeen) (p q : Knowing) (c : Call) (r : Answer) (ds : List Call) → IsPassOf context p → IsPassOf context q → AreNumbersFor n p → Answered context p q c r → map (inside n) ds ≡ entered_calls c r
    → (learnt : List Call) × (seen_store n (store_of (known q)) ≡ after_all (seen_store n (store_of (known p))) (learnt ++ ds))
seen_called context n p q c r ds pass after numbers made own =
    let promised : Promise context p q c r = promise context p q c r made in
    let answer = promised.explains.answer in
    let on : GoesFurther p q = called_further context p q c r pass.order after.order made in
    let later : AreNumbersFor n q = still_numbered n p q on numbers in
    let room : room_of q.order ≡ room_of context.order = ap room_of after.order in
    let are : AreNumbersOf n (store_of (known q)) = numbers_within n q later (omega (arith, promised.knows.few, promised.knows.within, room)) in
    let cs : List Call = calls_of answer.learnt ++ entered_calls c r in
    let left : store_of (known q) ≡ after_all (store_of (known p)) cs = ap store_of answer.known_is ∙ stepped (known p) answer.learnt (p.view.number, c) (is_entered c r) in
    let all : map (inside n) (free n (calls_of answer.learnt) ++ ds) ≡ cs =
    map-append (inside n) (free n (calls_of answer.learnt)) ds ∙ (λ i. inside_all n are.numbers (calls_of answer.learnt) i ++ own i) in (
      free n (calls_of answer.learnt),
      ap (seen_store n) left
          ∙ seen_by n (store_of (known p)) cs (free n (calls_of answer.learnt) ++ ds) all numbers.matrices numbers.vectors (subst (λ (s : Store). AreNumbersOf n s) left are),
    )

none_entered : (c : Call) (r : Answer) → is_entered c r ≡ false → entered_calls c r ≡ []
none_entered c r not = ap (λ (b : Bool). if b then c ∷ [] else []) not

there_stands : (old new : Seated) (c : Call) (r : Answer) → Stands old → IsThere old new → Answered new.context old.pass new.pass c r → Stands new
there_stands old new c r s there made =
    let before : IsPassOf new.context old.pass = subst (λ (x : Shared). IsPassOf x old.pass) (sym there.context) s.pass in
    let on : GoesFurther old.pass new.pass = called_further new.context old.pass new.pass c r before.order there.pass.order made in
    record { pass = there.pass; numbers = subst (λ (n : NumbersSeen). AreNumbersFor n new.pass) (sym there.numbers) (still_numbered old.numbers old.pass new.pass on s.numbers) }

-- the same where the member sits
there_keeps : (old new : Seated) (c : Call) (r : Answer) (ds : List Call) → Stands old → IsThere old new → Answered new.context old.pass new.pass c r → map (inside old.numbers) ds ≡ entered_calls c r → Keeps old new ds
there_keeps old new c r ds s there made own =
    let before : IsPassOf new.context old.pass = subst (λ (x : Shared). IsPassOf x old.pass) (sym there.context) s.pass in
    let seen = seen_called new.context old.numbers old.pass new.pass c r ds before there.pass s.numbers made own in
    (seen.0, ap (λ (n : NumbersSeen). seen_store n (store_of (known new.pass))) there.numbers ∙ seen.1)

-- a member that came to where it sits, with no call of its own entered, sees what it saw and what others entered
record Comes_on (old new : Seated) : Type 0 where
  pub stands : Stands new
  pub keeps : Keeps old new []

came_stayed : (old new : Seated) → Stands old → Stays old new → Comes_on old new
came_stayed old new s same =
    let still : Stands (record old { pass = record old.pass { made = new.pass.made }; reason = new.reason }) = record {
      pass = record { order = s.pass.order; records = s.pass.records };
      numbers = record { are = s.numbers.are; matrices = s.numbers.matrices; vectors = s.numbers.vectors; suffice = s.numbers.suffice };
    } in
    record { stands = subst Stands (sym same) still; keeps = ([], ap seen_of same) }

came_moved : (old new : Seated) → Moves old new → Comes_on old new
came_moved old new m = record {
  stands = record {
    pass = subst (λ (x : Shared). IsPassOf x new.pass) m.placed.here.context_is m.goes_on.begins.opened.pass;
    numbers = subst (λ (n : NumbersSeen). AreNumbersFor n new.pass) m.placed.here.numbers_are m.goes_on.numbered;
  };
  keeps = m.keeps;
}

comes_keep : (old new : Seated) → Stands old → Comes old new → Comes_on old new
comes_keep old new s (stayed h) = came_stayed old new s h
comes_keep old new s (moved h) = came_moved old new h
comes_keep old new s (unmade there c r not made) = record { stands = there_stands old new c r s there made; keeps = there_keeps old new c r [] s there made (sym (none_entered c r not)) }
comes_keep old new s (next {mid = mid} first second) =
    let along : Comes_on old mid = comes_keep old mid s first in
    let on : Comes_on mid new = comes_keep mid new along.stands second in
    record { stands = on.stands; keeps = keeps_then old mid new [] along.keeps on.keeps }

own_inside : (n : NumbersSeen) (c : Call) (inner : Answer) (r : Answer) → r ≡ outside_reply n inner → map (inside n) (entered_calls c r) ≡ entered_calls (inside n c) inner
own_inside n c inner r is =
    made_inside n c (is_entered c r) ∙ ap (λ (b : Bool). if b then inside n c ∷ [] else []) (ap (is_entered c) is ∙ sym (entered_inside n c inner))

made_keeps : (old new : Seated) (c : Call) (r : Answer) → Stands old → CallsHere old new c r → Keeps old new (entered_calls c r)
made_keeps old new c r stands here =
    let numbers : new.numbers ≡ old.numbers = here.there.numbers in
    let made : Answered new.context old.pass new.pass (inside old.numbers c) here.inner = subst (λ (n : NumbersSeen). Answered new.context old.pass new.pass (inside n c) here.inner) numbers here.answered in
    let own : map (inside old.numbers) (entered_calls c r) ≡ entered_calls (inside old.numbers c) here.inner =
    own_inside old.numbers c here.inner r (here.answer ∙ ap (λ (n : NumbersSeen). outside_reply n here.inner) numbers) in
    there_keeps old new (inside old.numbers c) here.inner (entered_calls c r) stands here.there made own

there_keep : (old new : Seated) (c : Call) (r : Answer) → Stands old → CallsThere old new c r → Keeps old new (entered_calls c r)
there_keep old new c r stands (inl made) = made_keeps old new c r stands made.0
there_keep old new c r stands (inr held) =
    let none : entered_calls c r ≡ [] = ap (entered_calls c) held.answer in
    subst (Keeps old new) (sym none) (came_stayed old new stands held.stays).keeps

-- so a call that was answered is in all that the member sees from then on
pub calls_keep : (old new : Seated) (c : Call) (r : Answer) → IsMember old → Calls old new c r → Keeps old new (entered_calls c r)
calls_keep old new c r is calls =
    let along : Comes_on old calls.before = comes_keep old calls.before (member_stands old is) calls.came in
    keeps_then old calls.before new (entered_calls c r) along.keeps (there_keep calls.before new c r along.stands calls.there)
