use Rattle.std.proofs.Common.{IfSome, subst, ◌∙◌}
use mathlib.Core.List.{IsPrefix}
use Rattle.grb_generations.specs.Seated.{Seated}
use Rattle.grb_generations.proofs.Ending.{brings_any}
use Rattle.grb_generations.proofs.member.Member.next_seat.Goals as goal

pub returns-clause-carries : goal.returns-clause-carries
returns-clause-carries c =
    brings_any c.args.self.now c.in-Some.page c.seat_after.result c.in-Some.ensures.ended c.seat_after.ensures.begins
    (subst (λ (x : Seated). IfSome c.seat_after.result (λ t. IsPrefix x.page.told t.0.page.told)) (c.self.view_is ∙ c.ended.ensures.same) c.seat_after.ensures.goes)
