use Rattle.std.proofs.Common.{◌∙◌, ap, sym}
use Rattle.grb_rows.specs.Held.{HeldView}
use Rattle.grb_rows.proofs.Holding.{stored-settled}
use Rattle.grb_rows.proofs.held.Held.rows.Goals as goal

pub returns-clause-entries : goal.returns-clause-entries
returns-clause-entries c =
    let i = c.self.inside in
    let is = ap (λ (v : HeldView). v.assembled) c.self.view_is ∙ c.requires.assembled in
    ap (λ r. r.entries) c.rows.ensures ∙ sym (stored-settled i.base i.pending.changes (c.self.invariant.settled is)) ∙ ap (λ (v : HeldView). v.entries) c.self.view_is
