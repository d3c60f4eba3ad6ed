use Rattle.std.proofs.Common.{subst}
use Rattle.grb_context.specs.Known.{Shared}
use Rattle.grb_context.specs.Meeting.{Met}
use Rattle.grb_generations.specs.Seated.{Seated}
use Rattle.grb_generations.proofs.AtEnd.{member_met}
use Rattle.grb_generations.proofs.member.Member.adopt_here.Goals as goal

pub invariant_of-self : goal.invariant_of-self
invariant_of-self c =
    let i = c.self.inside in
    let old : Seated = record { chain = i.generations.value; page = i.page; context = i.context.value; numbers = i.numbers.value; pass = i.pass; generation = i.generation; reason = i.reason } in
    let met : Met old.context old.pass c.adopt.new.pass c.other.inside.pass c.adopt.result = subst (λ (x : Shared). Met x old.pass c.adopt.new.pass c.other.inside.pass c.adopt.result) c.deref.ensures c.adopt.ensures.met in
    (member_met old c.adopt.new.pass c.other.inside.pass c.adopt.result c.self.invariant.0 met, c.self.invariant.1)
