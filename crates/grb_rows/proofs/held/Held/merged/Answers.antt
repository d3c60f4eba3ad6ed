use Rattle.std.proofs.Common.{◌∙◌, ap, sym}
use Rattle.std.proofs.lemmas.Result.{IfOk-weaker}
use Rattle.grb_rows.specs.Held.{HeldView}
use Rattle.grb_rows.proofs.Holding.{stored-settled}
use Rattle.grb_rows.proofs.held.Held.merged.Goals as goal

-- where nothing waits, the rows are what is stored
pub returns-then-is_empty-clause-entries : goal.returns-then-is_empty-clause-entries
returns-then-is_empty-clause-entries c =
    let i = c.self.inside in
    let all = stored-settled i.base i.pending.changes (c.is_empty.ensures.0 c.if-is_empty.true) in
    IfOk-weaker c.try_clone.result _ _ (λ new h. h ∙ sym all ∙ ap (λ (v : HeldView). v.entries) c.self.view_is) c.try_clone.ensures.entries
