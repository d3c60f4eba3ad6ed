-- believed: What one attempt at a call of a member leaves (own); used inside the crate alone.
use Rattle.grb_call.specs.declared.call.Call.{Call}
use Rattle.grb_generations.specs.declared.member.Attempt.{Attempt}
use Rattle.grb_generations.specs.declared.member.Attempt.TheVariants as attempt
use Rattle.grb_generations.specs.Seated.{Calls, Comes, Seated}

-- an answer is that of the call, made where the member then sits; else the call was entered nowhere
abbrev pub Attempts : Seated → Seated → Call → Attempt → Type 0
Attempts old new c (attempt.Answered r) = Calls old new c r
Attempts old new c attempt.Moved = Comes old new
Attempts old new c attempt.Stayed = Comes old new
