use Rattle.std.proofs.Common.{sym, ap, subst, ◌∙◌}
use Rattle.grb_pass.proofs.Prelude.{calls_of, store_of, IsTableOf, Table, IsEvaluatedFor, Knowing, known}
use Rattle.grb_pass.proofs.Evaluating.{evaluated_kept, ok_holds}
use Rattle.grb_pass.proofs.evaluated.Evaluated.begin_with.Goals as goal

pub returns-then-is_ok-clause-evaluated : goal.returns-then-is_ok-clause-evaluated
returns-then-is_ok-clause-evaluated g c =
    let p : Knowing = c.learn.new.reader in let t = c.self.inside.table in let cs = calls_of (known p) in
    let is : IsEvaluatedFor p t = subst (λ (x : Table). IsEvaluatedFor p x) (sym c.self.view_is) c.learn.ensures.evaluated in
    let of : IsTableOf cs t = subst (λ (x : Table). IsTableOf cs x) (sym c.self.view_is) (ok_holds c.learn.result _ (sym c.is_ok.ensures.value ∙ c.if-is_ok.true) c.learn.ensures.all) in
    evaluated_kept p t c.begin_with.new.self is (c.begin_with.ensures.table cs of (c.requires.store ∙ ap (λ (k : Knowing). store_of (known k)) (sym c.learn.ensures.same)))
    c.begin_with.ensures.same.learnt (λ all. c.begin_with.ensures.stays)
