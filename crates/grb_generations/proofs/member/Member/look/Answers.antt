use Rattle.grb_call.specs.declared.call.Call.TheVariants as call
use Rattle.grb_generations.specs.Seated.{unmade}
use Rattle.grb_generations.proofs.Moving.{size_unmade}
use Rattle.grb_generations.proofs.member.Member.look.Goals as goal

pub returns-clause-comes : goal.returns-clause-comes
returns-clause-comes c =
    let made = c.call_inside-refused.ensures in
    unmade made.there (call.SizeMatrix (record { 0 = 4294967295 })) c.call_inside-refused.result (size_unmade (record { 0 = 4294967295 }) c.call_inside-refused.result) made.answered
