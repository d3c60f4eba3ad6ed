use Rattle.std.proofs.Common.{◌∙◌, ap, sym}
use Rattle.grb_rows.specs.Pending.{last_at, PendingView}
use Rattle.grb_rows.proofs.Latest.{last_at-lookup}
use Rattle.grb_rows.proofs.pending.Pending.reserve.Goals as goal

pub returns-clause-last : goal.returns-clause-last
returns-clause-last c =
    let old = c.self.inside.latest.entries in
    let new = c.reserve-2.new.self.entries in
    λ q.
    last_at-lookup q new c.reserve-2.ensures.unique
    ∙ c.reserve-2.ensures.entries.2 q
    ∙ sym (last_at-lookup q old c.self.invariant.0)
    ∙ ap (λ (v : PendingView). last_at q v.changes) c.self.view_is
