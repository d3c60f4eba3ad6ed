use Rattle.std.proofs.Common.{subst}
use Rattle.grb_generations.specs.Reasons.{IsMember}
use Rattle.grb_generations.proofs.Lossless.{calls_keep}
use Rattle.grb_generations.proofs.Moving.{calls_after, calls_here}
use Rattle.grb_generations.proofs.member.Member.call.Goals as goal

pub returns-in-None-clause-calls : goal.returns-in-None-clause-calls
returns-in-None-clause-calls c =
    calls_after c.args.self.now c.attempts.new.self c.call_in_place.new.self c.args.call c.call_in_place.result c.in-None.ensures.calls
    (calls_here c.attempts.new.self c.call_in_place.new.self c.args.call c.call_in_place.result c.call_in_place.ensures.calls)

pub returns-in-None-clause-keeps : goal.returns-in-None-clause-keeps
returns-in-None-clause-keeps c = calls_keep c.args.self.now c.call_in_place.new.self c.args.call c.call_in_place.result (subst IsMember c.self.view_is c.self.invariant.0) (returns-in-None-clause-calls c)

pub returns-in-Some-clause-keeps : goal.returns-in-Some-clause-keeps
returns-in-Some-clause-keeps c = calls_keep c.args.self.now c.attempts.new.self c.args.call c.in-Some.answer (subst IsMember c.self.view_is c.self.invariant.0) c.in-Some.ensures.calls
