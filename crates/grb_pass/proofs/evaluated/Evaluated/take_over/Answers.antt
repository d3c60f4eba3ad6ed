use Rattle.std.proofs.Common.{sym, subst, ◌∙◌}
use Rattle.grb_pass.proofs.Prelude.{calls_of, IsTableOf, IsTable, Table, IsEvaluatedFor, Knowing, known, Begins}
use Rattle.grb_pass.proofs.Evaluating.{begins_on, evaluated_kept, ok_holds}
use Rattle.grb_pass.proofs.evaluated.Evaluated.take_over.Goals as goal

pub returns-then-is_ok-clause-evaluated : goal.returns-then-is_ok-clause-evaluated
returns-then-is_ok-clause-evaluated g c =
    let p : Knowing = c.learn.new.reader in let t = c.self.inside.table in let cs = calls_of (known p) in
    let is : IsEvaluatedFor p t = subst (λ (x : Table). IsEvaluatedFor p x) (sym c.self.view_is) c.learn.ensures.evaluated in
    let of : IsTableOf cs t = subst (λ (x : Table). IsTableOf cs x) (sym c.self.view_is) (ok_holds c.learn.result _ (sym c.is_ok.ensures.value ∙ c.if-is_ok.true) c.learn.ensures.all) in
    let theirs : Knowing = c.args.theirs.now in
    let other : IsTable (calls_of (known theirs)) c.other.inside.table = subst (λ (x : Table). IsTable (calls_of (known theirs)) x) (sym c.other.view_is) c.requires.other.table in
    let begins : Begins (known theirs) (known p) = subst (λ (k : Knowing). Begins (known theirs) (known k)) (sym c.learn.ensures.same) c.requires.begins in
    evaluated_kept p t c.take_new.new.self is (c.take_new.ensures.table cs (calls_of (known theirs)) of.table other (begins_on (known theirs) (known p) begins))
    c.take_new.ensures.same.learnt (λ all. c.take_new.ensures.stays)
