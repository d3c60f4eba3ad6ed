-- A pass that knows a full history learns nothing more, so what was said of its store stays true.
use Rattle.std.proofs.Common.{◌≡◌, ℕ, ◌≤◌, Bool, true, false, if◌then◌else◌, IfSome, Option, None, Some, Result, [], ◌∷◌, ◌++◌, length, refl, sym, ap, subst, ◌∙◌, arith, append_assoc, append-nil, length-append}
use Rattle.grb_core.specs.declared.refusal.Refusal.{Refusal}
use Rattle.grb_order.specs.Order.{room_of}
use Rattle.grb_order.specs.Holding.{TableId}
use Rattle.grb_call.specs.declared.call.Call.{Call}
use Rattle.grb_call.specs.History.{Entry, History, after_all, calls_of, store_of}
use Rattle.grb_call.specs.Store.{Store}
use Rattle.grb_call.proofs.ObjectsAfter.{matrix_counts-all, vector_counts-all}
use Rattle.grb_call.proofs.Runs.{after_all-append}
use Rattle.grb_context.specs.Answered.{Answered, Promise}
use Rattle.grb_context.specs.Explains.{Answer, is_entered}
use Rattle.grb_context.specs.Known.{IsKnown, IsPassOf, Knowing, Shared, known}
use Rattle.grb_context.specs.Meeting.{Met}
use Rattle.grb_context.proofs.Promised.{promise}
use Rattle.grb_numbers.specs.Numbers.{NumbersSeen}
use Rattle.grb_generations.specs.Chain.{Chain}
use Rattle.grb_generations.specs.Keeping.{AreNumbersFor, Began, Suffice, kept_store}
use Rattle.grb_generations.specs.Reserve.{HasPlace}
use Rattle.grb_generations.specs.Reasons.{HasNoRoom, HasSpent, IsMember, IsNoGeneration, IsThereAs, TakesSeat}
use Rattle.grb_generations.specs.Seated.{IsAtEnd, Seated}
use Rattle.grb_generations.specs.declared.reason.NoGeneration.{NoGeneration}
use Rattle.grb_generations.specs.declared.reason.NoGeneration.TheVariants as none
use Rattle.grb_generations.specs.declared.told.Told.{Told}
use Rattle.grb_generations.proofs.Chained.{store_of-append}

empty_rest : (h : History) → length h ≡ 0 → h ≡ []
empty_rest [] e = refl
empty_rest (x ∷ h) e = absurd (omega arith)

-- a history that begins with a full one and is within the room is that one
pub full_stays : (room : ℕ) (g rest h : History) → h ≡ g ++ rest → length g ≡ room → length h ≤ room → h ≡ g
full_stays room g rest h is full within =
    let n = ap length is ∙ length-append g rest in
    let nothing : rest ≡ [] = empty_rest rest (omega (arith, n, full, within)) in
    is ∙ ap (λ (r : History). g ++ r) nothing ∙ append-nil g

grown : (g learnt : History) (e : Entry) (b : Bool) → (rest : History) × ((if b then (g ++ learnt) ++ e ∷ [] else g ++ learnt) ≡ g ++ rest)
grown g learnt e true = (learnt ++ e ∷ [], append_assoc g learnt (e ∷ []))
grown g learnt e false = (learnt, refl)

-- the pass knows more, in the same order; where it knew a full history, it knows that
pub record GoesFurther (p q : Knowing) : Type 0 where
  pub order : q.order ≡ p.order
  pub passes : q.view.passes ≡ p.view.passes
  pub rest : History
  pub known_is : known q ≡ known p ++ rest
  pub keeps : IsAtEnd p → known q ≡ known p

within : (context : Shared) (p q : Knowing) → p.order ≡ context.order → IsKnown context q → length (known q) ≤ room_of p.order
within context p q order knows =
    let room : room_of p.order ≡ room_of context.order = ap room_of order in
    omega (arith, knows.few, knows.within, room)

pub called_further : (context : Shared) (p q : Knowing) (c : Call) (r : Answer) → p.order ≡ context.order → q.order ≡ context.order → Answered context p q c r → GoesFurther p q
called_further context p q c r order order_after made =
    let promised : Promise context p q c r = promise context p q c r made in
    let answer = promised.explains.answer in
    let on = grown (known p) answer.learnt (p.view.number, c) (is_entered c r) in
    record {
      order = order_after ∙ sym order;
      passes = answer.grown.passes;
      rest = on.0;
      known_is = answer.known_is ∙ on.1;
      keeps = λ end. full_stays (room_of p.order) (known p) on.0 (known q) (answer.known_is ∙ on.1) end (within context p q order promised.knows);
    }

pub met_further : (context : Shared) (p q other : Knowing) (r : Result (Unit {0}) Refusal) → p.order ≡ context.order → Met context p q other r → GoesFurther p q
met_further context p q other r order met = record {
  order = met.pass.order ∙ sym order;
  passes = met.learns.grown.passes;
  rest = met.learns.learnt;
  known_is = met.learns.known_is;
  keeps = λ end. full_stays (room_of p.order) (known p) met.learns.learnt (known q) met.learns.known_is end (within context p q order met.knows);
}

pub same_further : (p q : Knowing) → q.order ≡ p.order → q.view.passes ≡ p.view.passes → known q ≡ known p → GoesFurther p q
same_further p q order passes is = record { order = order; passes = passes; rest = []; known_is = is ∙ sym (append-nil (known p)); keeps = λ end. is }

still : (chain : Chain) (n : NumbersSeen) (p q : Knowing) → GoesFurther p q → (why : NoGeneration) → IsNoGeneration chain n p why → IsNoGeneration chain n q why
still chain n p q on (none.Unmade o) is =
    let same : known p ≡ known q = sym (on.keeps is.0) in
    subst (λ (h : History). (length h ≡ room_of q.order) × IsThereAs n h o) same (is.0 ∙ ap room_of (sym on.order), is.1)
still chain n p q on (none.RoomTooSmall needed) is =
    let same : known p ≡ known q = sym (on.keeps is.0) in
    subst (λ (h : History). (length h ≡ room_of q.order) × HasNoRoom chain h needed) same (is.0 ∙ ap room_of (sym on.order), is.1)
still chain n p q on none.Crowded is = record {
  before = is.before;
  rest = is.rest ++ on.rest;
  known_is = on.known_is ∙ ap (λ (h : History). h ++ on.rest) is.known_is ∙ append_assoc is.before is.rest on.rest;
  none = λ has. is.none (subst (λ (id : TableId). HasPlace chain (room_of id) is.before) on.order has);
}
still chain n p q on none.NumbersSpent is =
    let same : known p ≡ known q = sym (on.keeps is.0) in
    subst (λ (h : History). (length h ≡ room_of q.order) × HasSpent chain n h) same (is.0 ∙ ap room_of (sym on.order), is.1)
still chain n p q on none.OutOfMemory is = is
still chain n p q on none.Panic is = is
still chain n p q on none.Busy is = is

-- what was said of a member's store stays true of one that sits there
pub still_so : (chain : Chain) (n : NumbersSeen) (p q : Knowing) (o : Option NoGeneration) → GoesFurther p q → IfSome o (IsNoGeneration chain n p) → IfSome o (IsNoGeneration chain n q)
still_so chain n p q None on is = is
still_so chain n p q (Some why) on is = still chain n p q on why is

-- and its numbers stay those of all objects
pub still_numbered : (n : NumbersSeen) (p q : Knowing) → GoesFurther p q → AreNumbersFor n p → AreNumbersFor n q
still_numbered n p q on are =
    let store : store_of (known q) ≡ after_all (store_of (known p)) (calls_of on.rest) = ap store_of on.known_is ∙ store_of-append (known p) on.rest in
    record {
      are = are.are;
      matrices = omega (arith, are.matrices, matrix_counts-all (store_of (known p)) (calls_of on.rest), ap (λ (s : Store). length s.matrices) store);
      vectors = omega (arith, are.vectors, vector_counts-all (store_of (known p)) (calls_of on.rest), ap (λ (s : Store). length s.vectors) store);
      suffice = subst (λ (id : TableId). Suffice n (room_of id)) (sym on.order) are.suffice;
    }

-- and it went on with what its generation began with
pub still_began : (told : Told) (p q : Knowing) → GoesFurther p q → Began told p → Began told q
still_began told p q on began =
    let store : store_of (known q) ≡ after_all (store_of (known p)) (calls_of on.rest) = ap store_of on.known_is ∙ store_of-append (known p) on.rest in (
      began.0 ++ calls_of on.rest,
      store ∙ ap (λ (s : Store). after_all s (calls_of on.rest)) began.1 ∙ sym (after_all-append (kept_store (store_of (known told.last))) began.0 (calls_of on.rest)),
    )

-- a member that sits where it sat, and whose pass went on, is one
pub member_further : (old new : Seated) (reason : Option NoGeneration) → IsMember old → new ≡ record old { pass = new.pass; reason = reason } → IsPassOf old.context new.pass → GoesFurther old.pass new.pass → IfSome reason (IsNoGeneration old.chain old.numbers new.pass) → IsMember new
member_further old new reason is same pass on why = subst IsMember (sym same) (record {
  placed = is.placed;
  pass = pass;
  passes = on.passes ∙ is.passes;
  began = still_began is.placed.here.own old.pass new.pass on is.began;
  room = is.room;
  numbers = still_numbered old.numbers old.pass new.pass on is.numbers;
  reason = why;
})

-- a member that made a call where it sits is one, whether its reason stays or is that others were at work
pub reason_called : (old : Seated) (q : Knowing) (c : Call) (r : Answer) → IsMember old → IsPassOf old.context q → Answered old.context old.pass q c r → IfSome old.reason (IsNoGeneration old.chain old.numbers q)
reason_called old q c r is pass made = still_so old.chain old.numbers old.pass q old.reason (called_further old.context old.pass q c r is.pass.order pass.order made) is.reason

pub member_called : (old : Seated) (q : Knowing) (reason : Option NoGeneration) (c : Call) (r : Answer) → IsMember old → IsPassOf old.context q → Answered old.context old.pass q c r → IfSome reason (IsNoGeneration old.chain old.numbers q) → IsMember (record old { pass = q; reason = reason })
member_called old q reason c r is pass made why =
    let on = called_further old.context old.pass q c r is.pass.order pass.order made in
    record {
      placed = is.placed;
      pass = pass;
      passes = on.passes ∙ is.passes;
      began = still_began is.placed.here.own old.pass q on is.began;
      room = is.room;
      numbers = still_numbered old.numbers old.pass q on is.numbers;
      reason = why;
    }

pub member_met : (old : Seated) (q other : Knowing) (r : Result (Unit {0}) Refusal) → IsMember old → Met old.context old.pass q other r → IsMember (record old { pass = q })
member_met old q other r is met =
    let on = met_further old.context old.pass q other r is.pass.order met in
    record {
      placed = is.placed;
      pass = met.pass;
      passes = on.passes ∙ is.passes;
      began = still_began is.placed.here.own old.pass q on is.began;
      room = is.room;
      numbers = still_numbered old.numbers old.pass q on is.numbers;
      reason = still_so old.chain old.numbers old.pass q old.reason on is.reason;
    }

-- a pass with the same calls
pub member_same : (old : Seated) (q : Knowing) → IsMember old → IsPassOf old.context q → q.order ≡ old.pass.order → q.view.passes ≡ old.pass.view.passes → known q ≡ known old.pass → IsMember (record old { pass = q })
member_same old q is pass order passes same =
    let on = same_further old.pass q order passes same in
    record { placed = is.placed; pass = pass; passes = on.passes ∙ is.passes; began = still_began is.placed.here.own old.pass q on is.began; room = is.room; numbers = still_numbered old.numbers old.pass q on is.numbers; reason = still_so old.chain old.numbers old.pass q old.reason on is.reason }

-- a pass that made something, and then more
pub made_again : (p q r : Knowing) → q ≡ record p { made = q.made } → r ≡ record q { made = r.made } → r ≡ record p { made = r.made }
made_again p q r first second = subst (λ (x : Knowing). r ≡ record x { made = r.made }) first second

-- a pass that made something to evaluate, and knows the same
pub member_made : (old : Seated) (q : Knowing) → IsMember old → q ≡ record old.pass { made = q.made } → IsMember (record old { pass = q })
member_made old q is same =
    let p : Knowing = record old.pass { made = q.made } in
    subst (λ (x : Knowing). IsMember (record old { pass = x })) (sym same) (member_same old p is (record { order = is.pass.order; records = is.pass.records }) refl refl refl)

-- a seat that is left is that of a member, whoever tells of its chain
pub member_left : (old : Seated) (chain : Chain) → IsMember old → chain.room ≡ old.chain.room → chain.members ≡ old.chain.members → chain.book ≡ old.page.chain → IsMember (record old { chain = chain; reason = None })
member_left old chain is room members book = record {
  placed = record { chain = sym book; here = is.placed.here; count = is.placed.count; linked = is.placed.linked };
  pass = is.pass;
  passes = is.passes ∙ sym members;
  began = is.began;
  room = omega (arith, room, is.room);
  numbers = is.numbers;
  reason = record {};
}

-- and who takes it is one
pub takes_any : (chain : Chain) (number : ℕ) (left : Seated) (o : Option Seated) → IfSome o (λ m. m ≡ left) → IfSome o IsMember → IfSome o (λ m. m.reason ≡ None) → left.chain ≡ chain → left.pass.view.number ≡ number → IfSome o (TakesSeat chain number)
takes_any chain number left None same is none of at = tt
takes_any chain number left (Some m) same is none of at =
    let own : m.chain ≡ chain = ap (λ (x : Seated). x.chain) same ∙ of in
    let room : m.chain.room ≡ chain.room = ap (λ (x : Chain). x.room) own in
    record {
      chain_is = own;
      number_is = ap (λ (x : Seated). x.pass.view.number) same ∙ at;
      placed = record { chain = is.placed.chain ∙ ap (λ (x : Chain). x.book) own; here = is.placed.here; count = is.placed.count; linked = is.placed.linked };
      pass = is.pass;
      began = is.began;
      room = omega (arith, room, is.room);
      reason = none;
    }
