-- believed: What a snapshot of one object answers (own): it is a wait for the object's completion, and then the object.
use Rattle.std.specs.Prelude.{◌≡◌, Result, Ok, Err}
use Rattle.grb_core.specs.declared.refusal.Refusal.{Refusal}
use Rattle.grb_core.specs.declared.refusal.Refusal.TheVariants.{OutOfMemory}
use Rattle.grb_call.specs.declared.call.Call.{Call}
use Rattle.grb_context.specs.Known.{Shared, Knowing}
use Rattle.grb_context.specs.Explains.{Answer}
use Rattle.grb_context.specs.Answered.{Answered}

-- what is handed out after the answer to a wait: its refusal, or the object; where the wait was done, the object lies ready, and the one
-- holder more alone may still be refused
abbrev pub Hands : {X : Type 0} → Answer → Result X Refusal → Type 0
Hands (Ok reply) (Ok x) = Unit {0}
Hands (Ok reply) (Err r) = r ≡ OutOfMemory
Hands (Err refusal) (Ok x) = ⊥
Hands (Err refusal) (Err r) = r ≡ refusal

-- The wait was made, with an answer that is all that a call promises: point, history, status, steps, memory. And so it was handed out
pub record IsSnapshot (context : Shared) (old new : Knowing) (wait : Call) {X : Type 0} (r : Result X Refusal) : Type 0 where
  pub answer : Answer
  pub answered : Answered context old new wait answer
  pub hands : Hands answer r
