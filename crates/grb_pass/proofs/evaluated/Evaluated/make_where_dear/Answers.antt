use Rattle.std.proofs.Common.{subst, sym}
use Rattle.grb_pass.proofs.Prelude.{calls_of, IsTable, Table, IsEvaluatedFor, Knowing, known}
use Rattle.grb_pass.proofs.Evaluating.{evaluated_alike}
use Rattle.grb_pass.proofs.evaluated.Evaluated.make_where_dear.Goals as goal

pub returns-clause-evaluated : goal.returns-clause-evaluated
returns-clause-evaluated g c =
    let p : Knowing = c.args.reader.now in let t : Table = c.self.inside.table in let q : Knowing = c.work_for_all.new.calls in let t1 : Table = c.work_for_all.new.self in let u : Table = c.make_ready.new.self in
    let is : IsEvaluatedFor p t = subst (λ (x : Table). IsEvaluatedFor p x) (sym c.self.view_is) c.requires.evaluated in
    let looked : IsEvaluatedFor p t1 = evaluated_alike p t t1 is c.work_for_all.ensures.table.table c.work_for_all.ensures.learnt.learnt (λ all. c.work_for_all.ensures.results) in
    let at : IsEvaluatedFor q t1 = subst (λ (k : Knowing). IsEvaluatedFor k t1) (sym c.work_for_all.ensures.same) looked in
    let table : IsTable (calls_of (known q)) u = subst (λ (k : Knowing). IsTable (calls_of (known k)) u) c.make_ready.ensures.same c.make_ready.ensures.table in
    subst (λ (k : Knowing). IsEvaluatedFor k u) (sym c.make_ready.ensures.same) (evaluated_alike q t1 u at table c.make_ready.ensures.learnt (λ all. (c.make_ready.ensures.stays (at.settled all).ready).0))
