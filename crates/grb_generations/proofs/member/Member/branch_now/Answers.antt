use Rattle.std.proofs.Common.{IfErr, ap, sym, subst}
use Rattle.grb_call.specs.Store.{Store}
use Rattle.grb_context.specs.Chosen.{IsNoSuccessor}
use Rattle.grb_generations.specs.Branched.{store_named}
use Rattle.grb_generations.specs.Seated.{Seated}
use Rattle.grb_generations.proofs.Moving.{named_still}
use Rattle.grb_generations.proofs.member.Member.branch_now.Goals as goal

pub returns-clause-refused : goal.returns-clause-refused
returns-clause-refused c =
    subst (λ (s : Store). IfErr c.branch-self.result (λ no. IsNoSuccessor c.args.room c.args.passes s no)) (sym (ap (λ (x : Seated). store_named x c.args.matrices.now c.args.vectors.now) c.branch-self.ensures.stays)) c.branch-self.ensures.refused

pub returns-clause-named : goal.returns-clause-named
returns-clause-named c = named_still c.catch_up.new.self c.branch-self.new.self c.args.matrices.now c.args.vectors.now c.branch-self.result c.branch-self.ensures.stays c.branch-self.ensures.named
