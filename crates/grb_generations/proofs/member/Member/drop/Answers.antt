use Rattle.std.proofs.Common.{ap, refl, sym, ◌∙◌}
use Rattle.grb_generations.specs.Chain.{Chain}
use Rattle.grb_generations.specs.Seated.{Seated}
use Rattle.grb_generations.proofs.AtEnd.{member_left}
use Rattle.grb_generations.proofs.member.Member.drop.Goals as goal

pub invariant_of-leave : goal.invariant_of-leave
invariant_of-leave c =
    let i = c.self.inside in
    let old : Seated = record { chain = i.generations.value; page = i.page; context = i.context.value; numbers = i.numbers.value; pass = i.pass; generation = i.generation; reason = i.reason } in
    let chain : Chain = record { room = c.behind-generations.inside.room; members = c.behind-generations-2.inside.members; book = i.page.chain } in
    let room = ap (λ (x : Chain). x.room) (c.behind-generations.view_is ∙ c.deref-2.ensures) in
    let members = ap (λ (x : Chain). x.members) (c.behind-generations-2.view_is ∙ c.deref-3.ensures) in
    (member_left old chain c.self.invariant.0 room members refl, record { chain = c.self.invariant.1.chain ∙ sym c.self.invariant.0.placed.chain; context_is = c.self.invariant.1.context_is; generation_is = c.self.invariant.1.generation_is })
