-- The one pass of a context learns nothing from others, so its answers are those of a run.
use Rattle.std.proofs.Common.{inl, inr, ◌≡◌, ℕ, ◌≤◌, ◌==◌, ◌&&◌, Bool, true, false, if◌then◌else◌, [], ◌∷◌, ◌++◌, length, refl, ◌∙◌, subst, arith, eq-eqb}
use Rattle.grb_run.proofs.Prelude.{common_steps, is_none, Ok, Err, Shared, Knowing, known, IsAlone, Answer, ground_of, history_after, IsGrounded, IsUnshown, ExplainsAnswer, MayLackMemory, Promise, Answered, room_of, IsAnswer}
use Rattle.std.specs.Prelude.{Option, Some, None}
use Rattle.std.specs.Option.{option_map_or}
use Rattle.grb_core.specs.declared.refusal.Refusal.{Refusal}
use Rattle.grb_core.specs.declared.refusal.Refusal.TheVariants.{OrderFull, OutOfMemory, Panic}
use Rattle.grb_call.specs.declared.call.Call.{Call}
use Rattle.grb_call.specs.declared.reply.Reply.{Reply}
use Rattle.grb_call.specs.Kinds.{enters}
use Rattle.grb_call.specs.After.{refused}
use Rattle.grb_call.specs.History.{History, store_of}
use Rattle.grb_context.proofs.Alone.{grounds-alone, known-alone, shown-alone}
use Rattle.grb_context.proofs.Promised.{promise}

refused_anyway : (o : Option Refusal) (e f : Bool) (reply : Reply) (x : Refusal) → Err x ≡ option_map_or Err o (Ok reply) →
    Err x ≡ (if is_none o && e && f then Err OrderFull else option_map_or Err o (Ok reply))
refused_anyway None e f reply x h = cc
refused_anyway (Some q) e f reply x h = h

answered : (o : Option Refusal) (e f : Bool) (reply given : Reply) → (e ≡ true → f ≡ false) → Ok given ≡ option_map_or Err o (Ok reply) →
    Ok given ≡ (if is_none o && e && f then Err OrderFull else option_map_or Err o (Ok reply))
answered None true true reply given has_room h = cc (has_room refl)
answered None true false reply given has_room h = h
answered None false f reply given has_room h = h
answered (Some q) e f reply given has_room h = cc

full : (o : Option Refusal) (e f : Bool) (otherwise : Answer) → o ≡ None → e ≡ true → f ≡ true →
    Err OrderFull ≡ (if is_none o && e && f then Err OrderFull else otherwise)
full None true true otherwise unrefused enters is_full = refl
full None true false otherwise unrefused enters is_full = cc
full None false f otherwise unrefused enters is_full = cc
full (Some q) e f otherwise unrefused enters is_full = cc

grown : (room : ℕ) (c : Call) (reply : Reply) (h : History) (e : Bool) → length (if e then h ++ (0, c) ∷ [] else h) ≤ room → e ≡ true → length h == room ≡ false
grown room c reply h true within entered = grind (arith, common_steps)
grown room c reply h false within entered = cc

-- memory that may be refused where calls are settled may be refused where none is
unsettled : (room settled : ℕ) (h : History) (c : Call) → MayLackMemory room settled h c → MayLackMemory room 0 h c
unsettled room settled h c may = record {
  by_shapes = may.by_shapes;
  no_size = may.no_size;
  room_left = may.room_left;
  unsettled = λ reads. omega (arith, may.unsettled reads);
}

-- what is grounded in a history that stays within its room is the answer there
pub IsAnswer-grounded : (room : ℕ) (old new : Knowing) (h : History) (c : Call) (a : Answer) → length (history_after 0 c a h) ≤ room → (IsUnshown new → ⊥)
    → IsGrounded room old new c a h (ground_of a) → IsAnswer room h c a
IsAnswer-grounded room old new h c (Ok reply) within shown grounds =
    answered (refused (store_of h) c) (enters c) (length h == room) _ reply (grown room c reply h (enters c) within) grounds.answered
IsAnswer-grounded room old new h c (Err OrderFull) within shown grounds =
    full (refused (store_of h) c) (enters c) (length h == room) _ grounds.unrefused grounds.enters (eq-eqb _ _ grounds.full)
IsAnswer-grounded room old new h c (Err OutOfMemory) within shown grounds =
    unsettled room old.settled h c grounds.may
IsAnswer-grounded room old new h c (Err Panic) within shown (inl unshown) = absurd (shown unshown)
IsAnswer-grounded room old new h c (Err Panic) within shown (inr untaken) =
    untaken.may
IsAnswer-grounded room old new h c (Err x) within shown grounds = refused_anyway (refused (store_of h) c) (enters c) (length h == room) _ x grounds.answered

-- a call of the one pass of a context: its answer, and what the pass knows
pub explained : (context : Shared) (old new : Knowing) (c : Call) (a : Answer) → IsAlone old → Answered context old new c a
    → IsAnswer (room_of context.order) (known old) c a × (known new ≡ history_after 0 c a (known old)) × IsAlone new
explained context old new c a alone given =
    let room : ℕ = room_of context.order in
    let is : Promise context old new c a = promise context old new c a given in
    let explains : ExplainsAnswer room old new c a = is.explains.answer in
    let first : new.view.number ≡ 0 = explains.grown.number ∙ alone.number in
    let one : new.view.passes ≡ 1 = explains.grown.passes ∙ alone.passes in
    let known_after : known new ≡ history_after 0 c a (known old) = known-alone room old new c a alone.number alone.passes explains in
    let few : length (known new) ≤ length new.view.words = is.knows.few in
    let wide : length new.view.words ≤ room = is.knows.within in
    let short : length (known new) ≤ room = omega (arith, few, wide) in
    let within : length (history_after 0 c a (known old)) ≤ room = subst (λ h. length h ≤ room) known_after short in (
      IsAnswer-grounded room old new (known old) c a within (shown-alone context new first one is.knows) (grounds-alone room old new c a alone.number alone.passes explains),
      known_after,
      record { number = first; passes = one },
    )
