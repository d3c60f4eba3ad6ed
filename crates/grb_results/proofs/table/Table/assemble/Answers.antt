use Rattle.std.proofs.Common.{◌≡◌, suc, refl, ap, ◌∙◌, arith}
use Rattle.grb_results.proofs.Prelude.{Learnt, last_of, on_ok_weaker}
use Rattle.grb_results.proofs.LastKept.{kept_beside}
use Rattle.grb_results.proofs.LastResults.{kept_settled, ready_settled, table_settled}
use Rattle.grb_results.proofs.table.Table.assemble.Goals as goal

pub returns-clause-table : goal.returns-clause-table
returns-clause-table c cs was = table_settled c.unsettle.new.self (record c.unsettle.new.self { results = c.assemble_at.new.results }) c.args.at c.assemble_at.ensures.settled refl (omega arith) cs (c.unsettle.ensures.table cs was) (c.unsettle.ensures.apart cs was)

pub returns-clause-kept : goal.returns-clause-kept
returns-clause-kept c o last kept =
    let u = c.unsettle.new.self in let next : last_of c.args.self.now.learnt.lasts o ≡ suc c.args.at = omega (arith, last) in
    kept_settled u _ c.args.at c.assemble_at.ensures.settled refl o (ap (λ (l : Learnt). last_of l.lasts o) c.unsettle.ensures.learnt ∙ next)
    (kept_beside c.args.self.now u o c.unsettle.ensures.learnt c.unsettle.ensures.results kept)

pub returns-clause-ready : goal.returns-clause-ready
returns-clause-ready c =
    on_ok_weaker c.assemble_at.result (λ done o last kept.
    let u = c.unsettle.new.self in let next : last_of c.args.self.now.learnt.lasts o ≡ suc c.args.at = omega (arith, last) in
    ready_settled u _ c.args.at c.assemble_at.ensures.settled refl o (ap (λ (l : Learnt). last_of l.lasts o) c.unsettle.ensures.learnt ∙ next)
    (kept_beside c.args.self.now u o c.unsettle.ensures.learnt c.unsettle.ensures.results kept) done) c.assemble_at.ensures.assembled
