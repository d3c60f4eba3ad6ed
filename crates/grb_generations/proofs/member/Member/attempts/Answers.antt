use Rattle.std.proofs.Common.{refl, arith}
use Rattle.grb_generations.specs.Seated.{next, stayed}
use Rattle.grb_generations.proofs.Moving.{calls_after, stays_same}
use Rattle.grb_generations.proofs.member.Member.attempts.Goals as goal

pub moves-init : goal.moves-init
moves-init c = record { came = stayed (stays_same c.args.self.now c.args.self.now refl); later = omega arith }

pub moves-preserved : goal.moves-preserved
moves-preserved c = record { came = next c.moves.invariant.came c.in-Moved.ensures.attempts; later = omega (arith, c.moves.invariant.later, c.attempt.ensures.later) }

pub returns-in-Answered-clause-calls : goal.returns-in-Answered-clause-calls
returns-in-Answered-clause-calls c = calls_after c.args.self.now c.moves.self c.attempt.new.self c.args.call.now c.in-Answered.answer c.moves.invariant.came c.in-Answered.ensures.attempts

pub returns-in-Stayed-clause-calls : goal.returns-in-Stayed-clause-calls
returns-in-Stayed-clause-calls c = next c.moves.invariant.came c.in-Stayed.ensures.attempts
