use Rattle.grb_generations.specs.Seated.{Seated}
use Rattle.grb_generations.proofs.AtEnd.{member_made}
use Rattle.grb_generations.proofs.member.Member.evaluate.Goals as goal

pub invariant_of-self : goal.invariant_of-self
invariant_of-self c =
    let i = c.self.inside in
    let old : Seated = record { chain = i.generations.value; page = i.page; context = i.context.value; numbers = i.numbers.value; pass = i.pass; generation = i.generation; reason = i.reason } in
    (member_made old c.evaluate.new.pass c.self.invariant.0 c.evaluate.ensures.same, c.self.invariant.1)
