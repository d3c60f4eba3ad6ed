use Rattle.std.proofs.Common.{refl, sym, subst}
use Rattle.grb_context.specs.Known.{Knowing, none_made}
use Rattle.grb_generations.specs.Reasons.{IsMember}
use Rattle.grb_generations.specs.Seated.{Seated}
use Rattle.grb_generations.proofs.AtEnd.{member_same}
use Rattle.grb_generations.proofs.member.Member.release.Goals as goal

pub invariant_of-self : goal.invariant_of-self
invariant_of-self c =
    let i = c.self.inside in
    let old : Seated = record { chain = i.generations.value; page = i.page; context = i.context.value; numbers = i.numbers.value; pass = i.pass; generation = i.generation; reason = i.reason } in
    let is : IsMember old = c.self.invariant.0 in
    let q : Knowing = record old.pass { settled = 0; made = none_made } in
    let same : IsMember (record old { pass = q }) = member_same old q is (record { order = is.pass.order; records = is.pass.records }) refl refl refl in
    (subst (λ (p : Knowing). IsMember (record old { pass = p })) (sym c.release.ensures) same, c.self.invariant.1)
