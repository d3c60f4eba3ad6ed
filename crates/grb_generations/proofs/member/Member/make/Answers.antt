use Rattle.grb_generations.proofs.Moving.{moves_on, stays_on}
use Rattle.grb_generations.proofs.member.Member.make.Goals as goal

pub returns-clause-moved : goal.returns-clause-moved
returns-clause-moved c = λ e.
    let old = c.args.self.now in let third = c.succeed.new.self in
    moves_on old third c.show.new.self (stays_on old c.make_objects.new.self third c.make_objects.ensures c.succeed.ensures.stays) (c.show.ensures.moved e)
