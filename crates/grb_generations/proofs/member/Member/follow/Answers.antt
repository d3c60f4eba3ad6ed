use Rattle.std.proofs.Common.{sym, subst}
use Rattle.grb_generations.specs.Seated.{Comes, next, stayed}
use Rattle.grb_generations.proofs.Moving.{came_along, stays_same}
use Rattle.grb_generations.proofs.member.Member.follow.Goals.{then-is_left, else-is_left}
use Rattle.grb_generations.proofs.member.Member.follow.Goals as goal

pub returns-clause-comes : goal.returns-clause-comes
returns-clause-comes c =
    let old = c.args.self.now in let along = c.if-is_left.self in
    let looked : Comes old along = elim c.if-is_left.branch [
      | then-is_left w ↦ subst (Comes old) (sym w.self-is) w.look.ensures.comes
      | else-is_left w ↦ stayed (stays_same old along w.self-is)
    ] in
    next looked (came_along c.move_on-moved.result along c.move_on-moved.new.self c.move_on-moved.ensures.moved c.move_on-moved.ensures.stayed)
