use Rattle.std.proofs.Common.{Ok, ap, subst, ◌∙◌}
use Rattle.grb_generations.specs.Seated.{Moves, Seated}
use Rattle.grb_generations.proofs.Moving.{moves_on}
use Rattle.grb_generations.proofs.member.Member.go_on.Goals as goal

pub returns-then-move_on-clause-moved : goal.returns-then-move_on-clause-moved
returns-then-move_on-clause-moved c = λ e. c.move_on.ensures.moved c.if-move_on.true

pub returns-then-branch-clause-moved : goal.returns-then-branch-clause-moved
returns-then-branch-clause-moved c = λ e.
    subst (λ (x : Seated). Moves x c.provide_next.new.self) (c.move_on.ensures.stayed c.if-move_on.false) (c.provide_next.ensures.moved (c.in_ok-provide_next.was ∙ ap Ok c.if-branch.true))

pub returns-then-move_on-2-clause-moved : goal.returns-then-move_on-2-clause-moved
returns-then-move_on-2-clause-moved c = λ e.
    subst (λ (x : Seated). Moves x c.move_on-2.new.self) (c.move_on.ensures.stayed c.if-move_on.false)
    (moves_on c.move_on.new.self c.provide_next.new.self c.move_on-2.new.self (c.provide_next.ensures.stayed (c.in_ok-provide_next.was ∙ ap Ok c.if-branch.false)) (c.move_on-2.ensures.moved c.if-move_on-2.true))
