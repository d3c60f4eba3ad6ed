use Rattle.std.proofs.Common.{IfErr, subst}
use Rattle.grb_call.specs.History.{store_of}
use Rattle.grb_context.specs.Chosen.{IsNoSuccessor, chosen_store}
use Rattle.grb_context.specs.Known.{known}
use Rattle.grb_generations.specs.Seated.{Seated}
use Rattle.grb_generations.proofs.AtEnd.{member_made}
use Rattle.grb_generations.proofs.member.Member.branch_inside.Goals as goal

pub invariant_of-self : goal.invariant_of-self
invariant_of-self c =
    let i = c.self.inside in
    let old : Seated = record { chain = i.generations.value; page = i.page; context = i.context.value; numbers = i.numbers.value; pass = i.pass; generation = i.generation; reason = i.reason } in
    (member_made old c.branch-deref.new.pass c.self.invariant.0 c.branch-deref.ensures.same, c.self.invariant.1)

pub returns-clause-refused : goal.returns-clause-refused
returns-clause-refused c =
    subst (λ (x : Seated). IfErr c.branch-deref.result (IsNoSuccessor c.args.room c.args.passes (chosen_store (store_of (known x.pass)) c.args.matrices.now c.args.vectors.now))) c.self.view_is c.branch-deref.ensures.refused
