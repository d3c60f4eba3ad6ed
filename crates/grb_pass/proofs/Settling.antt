-- What is settled after a call.
use Rattle.std.proofs.Common.{◌≡◌, ℕ, ◌+◌, ◌≤◌, Bool, true, false, cond, [], ◌∷◌, ◌++◌, length, refl, sym, ap, ◌∙◌, subst, arith, length-append}
use Rattle.grb_pass.proofs.Prelude.{length_push, IfSome, Result, Ok, Err, OnOk, OnErr, result_or, OutOfMemory, Call, Object, Entry, History, enters, Knowing, known, Answer, ExplainsAnswer, ExplainsCall, is_entered, is_materialize, settled_after, waited_for, IsLeftReady, LeavesReady}
use Rattle.std.specs.Prelude.{None, Option}
use Rattle.std.specs.declared.alloc.AllocError.{AllocError}
use Rattle.grb_call.specs.declared.call.Call.TheVariants as call
use Rattle.grb_call.specs.declared.reply.Reply.{Reply}

enters_no_materialize : (c : Call) → enters c ≡ true → is_materialize c ≡ false
enters_no_materialize (call.WaitMatrix a mode) e = cc
enters_no_materialize (call.WaitVector v mode) e = cc
enters_no_materialize _ e = refl

-- a call that would be entered settles none
pub settled_entered : (c : Call) (r : Answer) (known settled : ℕ) → enters c ≡ true → settled_after c r known settled ≡ settled
settled_entered c (Ok reply) known settled e = ap (λ (b : Bool). cond b known settled) (enters_no_materialize c e)
settled_entered c (Err refusal) known settled e = refl

-- what is settled after a call that only reads, where its evaluation may be refused memory
pub settled_read : (now new : Knowing) (c : Call) (r : Result Reply AllocError) (settled : ℕ) → new ≡ record now { settled = new.settled; made = new.made } → now.settled ≡ settled → OnOk r (new.settled ≡ cond (is_materialize c) (length (known now)) now.settled) → OnErr r (new.settled ≡ now.settled)
    → new.settled ≡ settled_after c (result_or r (Err OutOfMemory)) (length (known new)) settled
settled_read now new c (Ok reply) settled same is ok err = ok ∙ (λ i. cond (is_materialize c) (length (known (sym same i))) (is i))
settled_read now new c (Err error) settled same is ok err = err ∙ is

settled_or : (b : Bool) (known settled : ℕ) → settled ≤ known → (settled ≤ cond b known settled) × (cond b known settled ≤ known)
settled_or true known settled within = (within, omega arith)
settled_or false known settled within = (omega arith, within)

-- what was settled stays, and what is settled is known
settled_between : (c : Call) (r : Answer) (known settled : ℕ) → settled ≤ known → (settled ≤ settled_after c r known settled) × (settled_after c r known settled ≤ known)
settled_between c (Ok reply) known settled within = settled_or (is_materialize c) known settled within
settled_between c (Err refusal) known settled within = (omega arith, within)

entry_or : (b : Bool) (e : Entry) (g : History) → length g ≤ length (cond b (g ++ e ∷ []) g)
entry_or true e g = let n : length (g ++ e ∷ []) ≡ length g + 1 = length_push g e in omega arith
entry_or false e g = omega arith

-- a call leaves no less known than before
known_more : (room : ℕ) (old new : Knowing) (c : Call) (r : Answer) → ExplainsAnswer room old new c r → length (known old) ≤ length (known new)
known_more room old new c r is =
    let g : History = known old ++ is.learnt in
    let n : length g ≡ length (known old) + length is.learnt = length-append (known old) is.learnt in
    let m : length g ≤ length (known new) = subst (λ (h : History). length g ≤ length h) (sym is.known_is) (entry_or (is_entered c r) (old.view.number, c) g) in
    omega arith

-- a call whose answer is explained, where what is settled after it is what it is to settle
pub explains_settled : (room : ℕ) (old new : Knowing) (c : Call) (r : Answer) → ExplainsAnswer room old new c r → old.settled ≤ length (known old)
    → new.settled ≡ settled_after c r (length (known new)) old.settled → ExplainsCall room old new c r
explains_settled room old new c r is before settled =
    let more : length (known old) ≤ length (known new) = known_more room old new c r is in
    let between : (old.settled ≤ settled_after c r (length (known new)) old.settled) × (settled_after c r (length (known new)) old.settled ≤ length (known new)) =
    settled_between c r (length (known new)) old.settled (omega (arith, before, more)) in
    record {
      answer = is;
      known_before = before;
      settled = settled;
      stay = omega (arith, settled, between.0);
      known_after = omega (arith, settled, between.1);
    }

-- a call that would be entered waits for no object
enters_no_wait : (c : Call) → enters c ≡ true → waited_for c ≡ None
enters_no_wait (call.WaitMatrix a mode) e = cc
enters_no_wait (call.WaitVector v mode) e = cc
enters_no_wait _ e = refl

no_wait : (p : Knowing) (c : Call) → waited_for c ≡ None → LeavesReady p c
no_wait p c none = subst (λ (o : Option Object). IfSome o (IsLeftReady p)) (sym none) tt

pub if_ok : {A E : Type 0} {P : Type 0} (r : Result A E) → P → OnOk r P
if_ok (Ok x) p = p
if_ok (Err e) p = tt

pub entered_ready : (p : Knowing) (c : Call) (r : Answer) → enters c ≡ true → OnOk r (LeavesReady p c)
entered_ready p c r writes = if_ok r (no_wait p c (enters_no_wait c writes))

-- what holds of an answer that was evaluated holds of the answer
pub ready_or : (P : Type 0) (r : Result Reply AllocError) → OnOk r P → OnOk (result_or r (Err OutOfMemory)) P
ready_or P (Ok reply) p = p
ready_or P (Err error) p = tt
