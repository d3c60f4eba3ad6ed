use Rattle.std.proofs.Common.{subst, arith}
use Rattle.grb_pass.proofs.Prelude.{OwnBelow, Knowing, fresh_put, own_wider, small_put}
use Rattle.grb_pass.proofs.pass.Pass.put.Goals as goal

pub returns-clause-fresh : goal.returns-clause-fresh
returns-clause-fresh g c =
    let p = c.self.inside in
    fresh_put c.put.result _ p.row.next c.args.call c.args.self.now.view c.put.ensures.put (subst (λ (k : Knowing). OwnBelow p.row.next k.view) c.self.view_is c.self.invariant.own)

pub returns-clause-index : goal.returns-clause-index
returns-clause-index g c = small_put c.put.result _ c.self.inside.row.next _ c.args.call c.put.ensures.put c.put.ensures.within (omega arith)

pub invariant_of-self : goal.invariant_of-self
invariant_of-self g c =
    let p = c.self.inside in record { step = c.self.invariant.step; own = own_wider p.row.next c.put.new.self.next p.reader.view c.put.ensures.later c.self.invariant.own }
