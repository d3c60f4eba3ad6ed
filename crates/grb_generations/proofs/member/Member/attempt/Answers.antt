use Rattle.std.proofs.Common.{refl, subst}
use Rattle.grb_call.specs.declared.call.Call.{Call}
use Rattle.grb_generations.specs.Seated.{CallsThere, Comes, next, stayed}
use Rattle.grb_generations.proofs.Moving.{attempts_on, calls_after, calls_here, came_on, stays_same, unmade_there}
use Rattle.grb_generations.proofs.member.Member.attempt.Goals as goal

pub returns-in_default-clause-attempts : goal.returns-in_default-clause-attempts
returns-in_default-clause-attempts c = stayed (stays_same c.args.self.now c.args.self.now refl)

pub returns-then-not-is_behind-clause-attempts : goal.returns-then-not-is_behind-clause-attempts
returns-then-not-is_behind-clause-attempts c =
    let old = c.args.self.now in let along = c.look_for_place.new.self in let made = c.call_in_place-answer.new.self in
    let here : CallsThere along made c.args.call.now c.call_in_place-answer.result =
    subst (λ (x : Call). CallsThere along made x c.call_in_place-answer.result) c.in-Ok.ensures.equal c.call_in_place-answer.ensures.calls in
    calls_after old along made c.args.call.now c.call_in_place-answer.result (next c.follow.ensures.comes c.look_for_place.ensures.comes) (calls_here along made c.args.call.now c.call_in_place-answer.result here)

pub returns-clause-attempts : goal.returns-clause-attempts
returns-clause-attempts c =
    let old = c.args.self.now in let along = c.look_for_place.new.self in let made = c.call_in_place-answer.new.self in
    let here : CallsThere along made c.args.call.now c.call_in_place-answer.result =
    subst (λ (x : Call). CallsThere along made x c.call_in_place-answer.result) c.in-Ok.ensures.equal c.call_in_place-answer.ensures.calls in
    let went : Comes made c.go_on.new.self = came_on made c.go_on.new.self c.go_on.result c.go_on.ensures.moved c.go_on.ensures.stayed c.go_on.ensures.err in
    attempts_on old c.go_on.new.self c.args.call.now c.went.result c.went.ensures
    (next (next c.follow.ensures.comes c.look_for_place.ensures.comes) (next (unmade_there along made c.args.call.now c.call_in_place-answer.result here (c.is_behind.ensures c.if-not-is_behind.false)) went))
