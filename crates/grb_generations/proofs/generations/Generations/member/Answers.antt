use Rattle.std.proofs.Common.{IfSome, Option, sym, subst, ◌∙◌}
use Rattle.grb_generations.specs.Reasons.{TakesSeat}
use Rattle.grb_generations.specs.Seated.{Seated}
use Rattle.grb_generations.proofs.AtEnd.{takes_any}
use Rattle.grb_generations.proofs.generations.Generations.member.Goals.{in-Some, in-None}
use Rattle.grb_generations.proofs.generations.Generations.member.Goals as goal

pub returns-else-is_none : goal.returns-else-is_none
returns-else-is_none c =
    let chain = c.args.generations.now.value in
    let P : Option Seated → Type 0 = λ o. IfSome o (TakesSeat chain c.args.number) in
    elim c.match-seat_anew.branch as (λ _. P c.match-seat_anew.member) [
      | in-Some w ↦ subst P (sym w.member-is) (takes_any chain c.args.number w.in-Some.left w.again-member.result w.again-member.ensures.same w.again-member.ensures.member w.again-member.ensures.reason (w.in-Some.ensures.chain ∙ c.deref-2.ensures) w.in-Some.ensures.number)
      | in-None w ↦ subst P (sym w.member-is) tt
    ]
