-- The end of a generation: which pass lies there, and what a member that meets it learns.
use Rattle.std.proofs.Common.{◌≡◌, ℕ, ◌+◌, ◌<◌, ◌≤◌, Bool, true, false, IfSome, Option, Some, None, Result, Ok, Err, List, [], ◌∷◌, ◌++◌, length, refl, sym, ap, subst, ◌∙◌, arith}
use Rattle.std.specs.Prelude.{slice_get}
use Rattle.std.specs.Result.{is_err}
use Rattle.std.proofs.lemmas.List.{length-append}
use Rattle.std.proofs.lemmas.Option.{slice_get_within}
use mathlib.Core.List.{IsPrefix}
use Rattle.std.specs.declared.alloc.AllocError.{AllocError}
use Rattle.grb_core.specs.declared.refusal.Refusal.{Refusal}
use Rattle.grb_chronicle.specs.Linked.{AreLinked, IsLast, MayFollow, Reached}
use Rattle.grb_chronicle.proofs.Places.{at_push, last_one, last_push, prefix_at, prefix_push}
use Rattle.grb_order.specs.Order.{room_of}
use Rattle.grb_call.specs.History.{store_of}
use Rattle.grb_context.specs.Known.{IsPassOf, Knowing, Shared, known}
use Rattle.grb_context.specs.Meeting.{Met}
use Rattle.grb_context.specs.Succeeding.{AreBegun}
use Rattle.grb_generations.specs.Follows.{Follows}
use Rattle.grb_generations.specs.Chain.{Chain}
use Rattle.grb_generations.specs.Keeping.{Began, IsAtEnd, Suffice, kept_numbers, kept_store}
use Rattle.grb_generations.specs.Placed.{IsPlaced}
use Rattle.grb_numbers.specs.Numbers.{NumbersSeen}
use Rattle.grb_numbers.specs.Seen.{AreNumbersOf}
use Rattle.grb_generations.specs.Reasons.{IsMember}
use Rattle.grb_generations.specs.Seated.{Brings, GoesOn, IsEnded, Moves, Seated, Showing}
use Rattle.grb_generations.specs.Sites.{IsEndOf, IsSiteIn}
use Rattle.grb_generations.specs.declared.ended.Ended.{Ended}
use Rattle.grb_generations.specs.declared.reason.NoGeneration.{NoGeneration}
use Rattle.grb_generations.specs.declared.site.Site.{Site}
use Rattle.grb_generations.specs.declared.told.Told.{Told}
use Rattle.grb_generations.proofs.AtEnd.{GoesFurther, full_stays, met_further}
use Rattle.grb_generations.proofs.Keeping.{numbers_at_end, sits}
use Rattle.grb_generations.proofs.Lasting.{moves_keep}

-- the pass that lies at the end of a generation, after a meeting, is one that may lie there
pub met_end : (site : Site) (e : Ended) (q other : Knowing) (r : Result (Unit {0}) Refusal) → IsEndOf site e → Met site.mark.context e.pass q other r → IsEndOf site (record e { pass = q })
met_end site e q other r is met =
    let on : GoesFurther e.pass q = met_further site.mark.context e.pass q other r is.pass.order met in
    let same : known q ≡ known e.pass = on.keeps is.end in
    record {
      chain = is.chain;
      pass = met.pass;
      end = ap length same ∙ is.end ∙ ap room_of (sym on.order);
      next = is.next;
      at = is.at;
      all = is.all ∙ sym same;
    }

-- a member at the end of its generation knows what the pass knows that lies there, once that has met its own
pub met_same : (context : Shared) (p q m : Knowing) → p.order ≡ context.order → m.order ≡ context.order → IsAtEnd p → IsAtEnd m → Met context p q m (Ok (record {})) → known p ≡ known m
met_same context p q m order own end at met =
    let on : GoesFurther p q = met_further context p q m (Ok (record {})) order met in
    let begins = met.met.0 in
    let same : known q ≡ known p = on.keeps end in
    let room : room_of p.order ≡ room_of m.order = ap room_of (order ∙ sym own) in
    let few : length (known q) ≤ room_of m.order = omega (arith, ap length same, end, room) in
    sym same ∙ full_stays (room_of m.order) (known m) begins.0 (known q) begins.1 at few

-- so the page that lies there brings the generation after its own, which was made of that
pub ended_by : (m : Seated) (site : Site) (e : Ended) → IsSiteIn site m.chain.book m.context m.generation → IsEndOf site e → known e.pass ≡ known m.pass → IsEnded m e.page
ended_by m site e at is same = record {
  chain = is.chain ∙ at.chain;
  next = is.next;
  at = subst (λ (n : ℕ). slice_get e.page.told (n + 1) ≡ Some is.next) at.generation_is is.at;
  all = is.all ∙ same;
}

-- a later page that it begins brings it too
pub brings_by : (m : Seated) (page later : Reached Told) → IsEnded m page → IsPrefix page.told later.told → IsPrefix m.page.told later.told → Brings m later
brings_by m page later ended begins own = record {
  begins = own;
  next = ended.next;
  at = prefix_at page.told later.told (m.generation + 1) ended.next begins ended.at;
  all = ended.all;
}

pub brings_any : (m : Seated) (page : Reached Told) (r : Option (Showing × Knowing)) → IsEnded m page → IfSome r (λ t. IsPrefix page.told t.0.page.told) → IfSome r (λ t. IsPrefix m.page.told t.0.page.told)
    → IfSome r (λ t. Brings m t.0.page)
brings_any m page None ended begins own = tt
brings_any m page (Some t) ended begins own = brings_by m page t.0.page ended begins own

-- and its generation is a later one
pub later_by : (m : Seated) (page later : Reached Told) (generation : ℕ) → IsEnded m page → IsPrefix page.told later.told → length later.told ≡ generation + 1 → m.generation < generation
later_by m page later generation ended begins count =
    let at = prefix_at page.told later.told (m.generation + 1) ended.next begins ended.at in
    let within = slice_get_within later.told (m.generation + 1) ended.next at in
    omega (arith, within, count)

-- what is made of the end of a member's generation may follow that in the chronicle
pub may_follow : (m : Seated) (next : Told) (passes : List Knowing) → IsMember m → IsAtEnd m.pass → next.last ≡ m.pass → AreBegun next.context (kept_store (store_of (known m.pass))) (length passes) passes → length passes ≡ m.chain.members
    → next.numbers ≡ kept_numbers m.numbers (store_of (known m.pass)) → Suffice next.numbers (room_of next.context.order) → MayFollow Follows m.page.told next
may_follow m next passes is end last begun count numbers suffices own at =
    let same : is.placed.here.own ≡ own = last_one m.page.told is.placed.here.own own is.placed.here.last at in
    let context : own.context ≡ m.context = ap (λ (t : Told). t.context) (sym same) ∙ is.placed.here.context_is in
    let own_numbers : own.numbers ≡ m.numbers = ap (λ (t : Told). t.numbers) (sym same) ∙ is.placed.here.numbers_are in
    record {
      pass = subst (λ (y : Shared × Knowing). IsPassOf y.0 y.1) (λ i. (sym context i, sym last i)) is.pass;
      end = subst IsAtEnd (sym last) end;
      went_on = subst (λ (y : Told × Knowing). Began y.0 y.1) (λ i. (same i, sym last i)) is.began;
      numbered = subst (λ (y : NumbersSeen × Knowing). AreNumbersOf y.0 (store_of (known y.1))) (λ i. (sym own_numbers i, sym last i)) (numbers_at_end m.numbers m.pass is.numbers end);
      passes = passes;
      count = count ∙ sym is.passes ∙ ap (λ (p : Knowing). p.view.passes) (sym last);
      begun = subst (λ (p : Knowing). AreBegun next.context (kept_store (store_of (known p))) (length passes) passes) (sym last) begun;
      numbers_are = numbers ∙ (λ i. kept_numbers (sym own_numbers i) (store_of (known (sym last i))));
      suffices = suffices;
    }

-- the page of the member that made it brings it
pub brings_own : (m : Seated) (page : Reached Told) (next : Told) → IsMember m → page.told ≡ m.page.told ++ next ∷ [] → next.last ≡ m.pass → Brings m page
brings_own m page next is told last = record {
  begins = subst (IsPrefix m.page.told) (sym told) (prefix_push m.page.told next);
  next = next;
  at = ap (λ (l : List Told). slice_get l (m.generation + 1)) told ∙ ap (slice_get (m.page.told ++ next ∷ [])) (sym is.placed.count) ∙ at_push m.page.told next;
  all = ap known last;
}

pub is_met : (r : Result (Unit {0}) Refusal) → is_err r ≡ false → r ≡ Ok (record {})
is_met (Ok x) e = refl
is_met (Err why) e = absurd (cc e)

pub is_true : (b : Bool) → ◌≡◌ {A = Result Bool AllocError} (Ok b) (Ok true) → b ≡ true
is_true b e = cc e

pub is_moved : (b : Bool) → ◌≡◌ {A = Result Bool NoGeneration} (Ok b) (Ok true) → b ≡ true
is_moved b e = cc e

-- the pass that made the next generation may lie at the end of its own
pub end_left : (m : Seated) (site : Site) (page : Reached Told) (next : Told) → IsMember m → IsAtEnd m.pass → IsSiteIn site m.chain.book m.context m.generation → page.chain ≡ m.page.chain
    → page.told ≡ m.page.told ++ next ∷ [] → next.last ≡ m.pass → IsEndOf site (record { pass = m.pass; page = page })
end_left m site page next is end at chain told last = record {
  chain = chain ∙ is.placed.chain ∙ sym at.chain;
  pass = subst (λ (x : Shared). IsPassOf x m.pass) (sym at.context_is) is.pass;
  end = end;
  next = next;
  at = (λ i. slice_get (told i) (at.generation_is i + 1)) ∙ ap (slice_get (m.page.told ++ next ∷ [])) (sym is.placed.count) ∙ at_push m.page.told next;
  all = ap known last;
}

-- who takes a seat of a generation that its page brings has moved
pub sat_down : (m n : Seated) (told : Told) → IsAtEnd m.pass → IsMember m → n.pass.view.number ≡ m.pass.view.number → n.chain ≡ m.chain → IsPlaced n.chain.book n.context n.numbers n.generation n.page → IsLast n.page.told told
    → GoesOn n.chain.room n.chain.members told n.pass → Brings m n.page → Moves m n
sat_down m n told end member number chain placed last on brings =
    let same : told ≡ placed.here.own = last_one n.page.told told placed.here.own last placed.here.last in
    let own : GoesOn n.chain.room n.chain.members placed.here.own n.pass = subst (λ (t : Told). GoesOn n.chain.room n.chain.members t n.pass) same on in
    let within = slice_get_within n.page.told (m.generation + 1) brings.next brings.at in
    record {
      end = end;
      later = omega (arith, within, placed.count);
      number = number;
      placed = placed;
      goes_on = own;
      chain = chain;
      brings = brings;
      keeps = moves_keep m n member placed own brings;
    }

-- who made the next generation, and sits there
pub record StepsOn (m n : Seated) (next : Told) : Type 0 where
  pub end : IsAtEnd m.pass
  pub chain : n.chain ≡ m.chain
  pub page : n.page.chain ≡ m.page.chain
  pub told : n.page.told ≡ m.page.told ++ next ∷ []
  pub linked : AreLinked Follows n.page.told
  pub is : next ≡ record { context = n.context; numbers = n.numbers; last = m.pass }
  pub generation : n.generation ≡ m.generation + 1
  pub number : n.pass.view.number ≡ m.pass.view.number
  pub goes_on : GoesOn m.chain.room m.chain.members next n.pass
  pub reason : n.reason ≡ None

module _ (m n : Seated) (next : Told) (member : IsMember m) (on : StepsOn m n next) where
  stepped_goes : GoesOn n.chain.room n.chain.members next n.pass
  stepped_goes = subst (λ (c : Chain). GoesOn c.room c.members next n.pass) (sym on.chain) on.goes_on

  stepped_last : IsLast n.page.told next
  stepped_last = subst (λ (l : List Told). IsLast l next) (sym on.told) (last_push m.page.told next)

  stepped_placed : IsPlaced n.chain.book n.context n.numbers n.generation n.page
  stepped_placed = record {
    chain = on.page ∙ member.placed.chain ∙ ap (λ (c : Chain). c.book) (sym on.chain);
    here = record { own = next; last = stepped_last; context_is = ap (λ (t : Told). t.context) on.is; numbers_are = ap (λ (t : Told). t.numbers) on.is };
    count = omega (arith, ap length on.told, length-append m.page.told (next ∷ []), member.placed.count, on.generation);
    linked = on.linked;
  }

  pub stepped_member : IsMember n
  stepped_member = sits n next stepped_placed stepped_last stepped_goes on.reason

  stepped_brings : Brings m n.page
  stepped_brings = brings_own m n.page next member on.told (ap (λ (t : Told). t.last) on.is)

  pub stepped_moves : Moves m n
  stepped_moves = sat_down m n next on.end member on.number on.chain stepped_placed stepped_last stepped_goes stepped_brings
