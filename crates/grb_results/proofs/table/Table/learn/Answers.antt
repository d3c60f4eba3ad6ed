use Rattle.std.proofs.Common.{◌≡◌, ◌⊎◌, ◌+◌, ◌++◌, ◌∷◌, [], List, length, Option, None, refl, sym, ap, subst, ◌∙◌}
use Rattle.grb_results.proofs.Prelude.{Learnt, SharedContent, IsLearnt, last_of}
use Rattle.grb_results.proofs.Exchanging.{in_any_err}
use Rattle.grb_results.proofs.Grown.{grown}
use Rattle.grb_results.proofs.Settled.{table_learnt, table_refused}
use Rattle.grb_results.proofs.table.Table.learn.Goals as goal

pub returns-in_err-reserve-clause-err : goal.returns-in_err-reserve-clause-err
returns-in_err-reserve-clause-err c = in_any_err _ c.from_residual.result (λ cs was. table_refused cs c.args.self.now _ was was.learnt refl (λ o. refl) c.reserve.ensures.items refl)

pub returns-in_err-reserve-2-clause-err : goal.returns-in_err-reserve-2-clause-err
returns-in_err-reserve-2-clause-err c = in_any_err _ c.from_residual-in_err-reserve-2.result (λ cs was. table_refused cs c.args.self.now _ was was.learnt refl (λ o. refl) c.reserve.ensures.items refl)

pub returns-in_err-reserve_for-clause-err : goal.returns-in_err-reserve_for-clause-err
returns-in_err-reserve_for-clause-err c = in_any_err _ c.from_residual-in_err-reserve_for.result (λ cs was. table_refused cs c.args.self.now _ was was.learnt refl (λ o. refl) c.reserve.ensures.items refl)

pub returns-in_err-learn-clause-err : goal.returns-in_err-learn-clause-err
returns-in_err-learn-clause-err c = in_any_err _ c.from_residual-in_err-learn.result (λ cs was. table_refused cs c.args.self.now _ was (c.in_err-learn.ensures.err cs was.learnt) refl c.in_err-learn.ensures.lasts_stay c.reserve.ensures.items c.in_err-learn.ensures.no_more)

pub returns-clause-learnt : goal.returns-clause-learnt
returns-clause-learnt c cs was here =
    let t = c.args.self.now in let same = sym c.mark.ensures.learnt in
    table_learnt cs t c.mark.new.self was (subst (λ (l : Learnt). IsLearnt cs l) same (c.in_ok-learn.ensures.learnt cs was.learnt here)) c.mark.ensures.settled
    (λ o. subst (λ (l : Learnt). (last_of l.lasts o ≡ last_of t.learnt.lasts o) ⊎ (last_of l.lasts o ≡ length t.learnt.nodes.items + 1)) same (c.in_ok-learn.ensures.lasts o))
    (ap (λ rs. rs.items) c.mark.ensures.results ∙ (c.push_reserved.ensures.items ∙ ap (λ (xs : List (Option SharedContent)). xs ++ None ∷ []) c.reserve.ensures.items))
    (ap (λ (l : Learnt). length l.nodes.items) c.mark.ensures.learnt ∙ c.in_ok-learn.ensures.more)

pub returns-clause-grown : goal.returns-clause-grown
returns-clause-grown c cs was all = grown cs c.args.call.now c.args.self.now c.mark.new.self all was (returns-clause-learnt c)
