use Rattle.std.proofs.Common.{Some, refl, sym, subst}
use Rattle.grb_generations.specs.Reasons.{IsMember, IsNoGeneration}
use Rattle.grb_generations.specs.Seated.{Seated}
use Rattle.grb_generations.proofs.AtEnd.{member_further, same_further}
use Rattle.grb_generations.proofs.member.Member.because.Goals as goal

pub invariant_of-self : goal.invariant_of-self
invariant_of-self c =
    let i = c.self.inside in
    let old : Seated = record { chain = i.generations.value; page = i.page; context = i.context.value; numbers = i.numbers.value; pass = i.pass; generation = i.generation; reason = i.reason } in
    let is : IsMember old = c.self.invariant.0 in
    let why : IsNoGeneration old.chain old.numbers old.pass c.args.why = subst (λ (x : Seated). IsNoGeneration x.chain x.numbers x.pass c.args.why) (sym c.self.view_is) c.requires in
    (member_further old (record old { reason = Some c.args.why }) (Some c.args.why) is refl is.pass (same_further old.pass old.pass refl refl refl) why, c.self.invariant.1)
