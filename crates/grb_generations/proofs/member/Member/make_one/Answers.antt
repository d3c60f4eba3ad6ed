use Rattle.grb_generations.specs.Seated.{Seated}
use Rattle.grb_generations.proofs.AtEnd.{made_again, member_made}
use Rattle.grb_generations.proofs.member.Member.make_one.Goals as goal

pub invariant_of-self : goal.invariant_of-self
invariant_of-self c =
    let i = c.self.inside in
    let old : Seated = record { chain = i.generations.value; page = i.page; context = i.context.value; numbers = i.numbers.value; pass = i.pass; generation = i.generation; reason = i.reason } in
    let looked = c.work_left-work.new.pass in let made = c.evaluate-unmade.new.pass in
    (member_made old made c.self.invariant.0 (made_again i.pass looked made c.work_left-work.ensures.same c.evaluate-unmade.ensures.same), c.self.invariant.1)
