use Rattle.std.proofs.Common.{None, refl}
use Rattle.grb_generations.specs.Seated.{Seated}
use Rattle.grb_generations.proofs.Keeping.{founded}
use Rattle.grb_generations.proofs.member.Member.new.Goals as goal

pub invariant_of-result : goal.invariant_of-result
invariant_of-result c =
    let a = c.args in let r = c.requires in
    let m : Seated = record { chain = a.generations.value; page = a.page; context = a.context.value; numbers = a.numbers.value; pass = a.pass; generation = 0; reason = None } in
    (founded m r.placed r.first r.pass r.passes r.numbers r.room r.most refl, r.site)
