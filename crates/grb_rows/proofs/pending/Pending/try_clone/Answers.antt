use Rattle.std.proofs.Common.{◌≡◌, ◌∙◌, ap}
use Rattle.grb_rows.specs.Pending.{PendingView}
use Rattle.grb_rows.proofs.pending.Pending.try_clone.Goals as goal

pub returns : goal.returns
returns c =
    let i = c.self.inside in
    let places : c.in_ok-copied-2.field-0.items ≡ i.places.items = c.in_ok-copied-2.ensures ∙ c.deref.ensures.value in
    (λ t. record { changes = c.in_ok-copied.ensures.entries t; places = places t; reserved = 0; apart = i.apart })
    ∙ ap (λ (v : PendingView). record { changes = v.changes; places = v.places; reserved = 0; apart = v.apart }) c.self.view_is
