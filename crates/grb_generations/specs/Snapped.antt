-- believed: What a member's snapshot of one object answers (own): it is a call that waits for the object, and then the object.
use Rattle.std.specs.Prelude.{Result}
use Rattle.grb_core.specs.declared.refusal.Refusal.{Refusal}
use Rattle.grb_call.specs.declared.call.Call.{Call}
use Rattle.grb_context.specs.Explains.{Answer}
use Rattle.grb_context.specs.Snapshot.{Hands}
use Rattle.grb_generations.specs.Seated.{Calls, Seated}

-- the wait was made, with an answer that is all that a call of the member promises; and so it was handed out
pub record Snaps (old new : Seated) (wait : Call) {X : Type 0} (r : Result X Refusal) : Type 0 where
  pub answer : Answer
  pub calls : Calls old new wait answer
  pub hands : Hands answer r
