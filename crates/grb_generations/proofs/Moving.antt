-- A member that stayed, moved, or called, one after another.
use Rattle.std.proofs.Common.{◌≡◌, Bool, true, false, List, refl, sym, ap, ◌∙◌, subst, IfErr, OnErr, Result, Ok, Err, ◌⊎◌, inl, inr}
use Rattle.grb_call.specs.declared.call.Call.{Call}
use Rattle.grb_call.specs.declared.call.Call.TheVariants as call
use Rattle.grb_call.specs.declared.ids.MatrixId.{MatrixId}
use Rattle.grb_call.specs.declared.ids.VectorId.{VectorId}
use Rattle.grb_context.specs.declared.NoSuccessor.{NoSuccessor}
use Rattle.grb_generations.specs.Branched.{NamesAsked}
use Rattle.grb_context.specs.Explains.{Answer, is_entered}
use Rattle.grb_numbers.specs.Inside.{inside, inwards, outside_reply}
use Rattle.grb_numbers.proofs.Renamed.{enters-renamed}
use Rattle.grb_numbers.specs.Numbers.{NumbersSeen}
use Rattle.grb_generations.specs.declared.reason.NoGeneration.{NoGeneration}
use Rattle.grb_generations.specs.Attempts.{Attempts}
use Rattle.grb_generations.specs.declared.member.Attempt.{Attempt}
use Rattle.grb_generations.specs.declared.member.Attempt.TheVariants as attempt
use Rattle.grb_generations.specs.Seated.{Seated, Stays, Moves, Calls, CallsHere, CallsThere, Comes, stayed, moved, next, unmade}

pub stays_same : (old new : Seated) → new ≡ old → Stays old new
stays_same old new e = subst (Stays old) (sym e) refl

pub stays_on : (old mid new : Seated) → Stays old mid → Stays mid new → Stays old new
stays_on old mid new s t = subst (λ (x : Seated). new ≡ record x { pass = record x.pass { made = new.pass.made }; reason = new.reason }) s t

pub moves_on : (old mid new : Seated) → Stays old mid → Moves mid new → Moves old new
moves_on old mid new s m =
    let r : Moves (record old { pass = record old.pass { made = mid.pass.made }; reason = mid.reason }) new = subst (λ (x : Seated). Moves x new) s m in
    record { end = r.end; later = r.later; number = r.number; placed = r.placed; goes_on = r.goes_on; chain = r.chain; brings = record { begins = r.brings.begins; next = r.brings.next; at = r.brings.at; all = r.brings.all }; keeps = (r.keeps.0, r.keeps.1) }

pub came_along : (b : Bool) (old new : Seated) → (b ≡ true → Moves old new) → (b ≡ false → new ≡ old) → Comes old new
came_along true old new m s = moved (m refl)
came_along false old new m s = stayed (stays_same old new (s refl))

-- it went on, or stayed
pub came_on : (old new : Seated) (r : Result Bool NoGeneration) → (r ≡ Ok true → Moves old new) → (r ≡ Ok false → Stays old new) → OnErr r (Stays old new) → Comes old new
came_on old new (Ok true) m s e = moved (m refl)
came_on old new (Ok false) m s e = stayed (s refl)
came_on old new (Err why) m s e = stayed e

pub attempts_on : (old new : Seated) (c : Call) (a : Attempt) → (a ≡ attempt.Moved) ⊎ (a ≡ attempt.Stayed) → Comes old new → Attempts old new c a
attempts_on old new c a (inl e) came = subst (Attempts old new c) (sym e) came
attempts_on old new c a (inr e) came = subst (Attempts old new c) (sym e) came

-- it is in the same chain
pub comes_chain : (old new : Seated) → Comes old new → new.chain ≡ old.chain
comes_chain old new (stayed h) = ap (λ (x : Seated). x.chain) h
comes_chain old new (moved h) = h.chain
comes_chain old new (unmade there c r not made) = there.chain
comes_chain old new (next {mid = mid} first second) = comes_chain mid new second ∙ comes_chain old mid first

pub calls_after : (old at new : Seated) (c : Call) (r : Answer) → Comes old at → Calls at new c r → Calls old new c r
calls_after old at new c r came calls = record { before = calls.before; came = next came calls.came; there = calls.there }

-- a call where the member sits
pub calls_here : (at new : Seated) (c : Call) (r : Answer) → CallsThere at new c r → Calls at new c r
calls_here at new c r there = record { before = at; came = stayed (stays_same at at refl); there = there }

-- a call by other numbers is entered where it is
pub entered_inside : (n : NumbersSeen) (c : Call) (r : Answer) → is_entered (inside n c) r ≡ is_entered c (outside_reply n r)
entered_inside n c (Ok reply) = enters-renamed (inwards n) c
entered_inside n c (Err why) = refl

-- a call where the member sits that was not entered
pub unmade_here : (at new : Seated) (c : Call) (r : Answer) → CallsHere at new c r → is_entered c r ≡ false → Comes at new
unmade_here at new c r here not = unmade here.there (inside new.numbers c) here.inner (entered_inside new.numbers c here.inner ∙ ap (is_entered c) (sym here.answer) ∙ not) here.answered

pub unmade_there : (at new : Seated) (c : Call) (r : Answer) → CallsThere at new c r → is_entered c r ≡ false → Comes at new
unmade_there at new c r (inl made) not = unmade_here at new c r made.0 not
unmade_there at new c r (inr held) not = stayed held.stays

-- a call for dimensions is never entered
pub size_unmade : (a : MatrixId) (r : Answer) → is_entered (call.SizeMatrix a) r ≡ false
size_unmade a (Ok reply) = refl
size_unmade a (Err why) = refl

-- an object that is named as one that was asked for is so still where the member stayed
pub named_still : {A : Type 0} (old new : Seated) (matrices : List MatrixId) (vectors : List VectorId) (r : Result A NoSuccessor) → Stays old new → IfErr r (NamesAsked old matrices vectors) → IfErr r (NamesAsked new matrices vectors)
named_still old new matrices vectors (Ok x) stays named = tt
named_still old new matrices vectors (Err why) stays named = subst (λ (x : Seated). NamesAsked x matrices vectors why) (sym stays) (record { inner = named.inner; chosen = named.chosen; outer = named.outer })
