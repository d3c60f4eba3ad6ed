use Rattle.std.proofs.Common.{◌∙◌, ap}
use Rattle.grb_rows.specs.Held.{HeldView}
use Rattle.grb_rows.proofs.Holding.{stored-reordered, held-reordered}
use Rattle.grb_rows.proofs.held.Held.reserve_pending.Goals as goal

pub invariant_of-self : goal.invariant_of-self
invariant_of-self c =
    let i = c.self.inside in
    held-reordered i.base i.pending c.reserve.new.self c.reserve.ensures.last i.nvals i.assembled c.self.invariant c.reserve.ensures.places c.reserve.ensures.none

pub returns-clause-entries : goal.returns-clause-entries
returns-clause-entries c =
    let i = c.self.inside in
    stored-reordered i.base i.pending c.reserve.new.self c.reserve.ensures.last i.nvals i.assembled c.self.invariant
    ∙ ap (λ (v : HeldView). v.entries) c.self.view_is
