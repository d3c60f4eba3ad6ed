use Rattle.std.proofs.Common.{ℕ, ◌<◌, List, ◌∷◌, ◌∙◌, sym, ap, subst, Option, Some}
use Rattle.atomic_table.specs.Table.{rest}
use Rattle.grb_slots.proofs.Keeping.{closes}
use Rattle.grb_slots.proofs.slots.Slots.claim.Goals as goal

pub swap_new_seat-found-requires : goal.swap_new_seat-found-requires
swap_new_seat-found-requires g c =
    let shared = c.self.inside.table.shared in
    let below = subst (λ (n : ℕ). c.args.at < n) (c.len.ensures ∙ sym (λ i. (c.self.view_is i).count)) c.if-at-len.false in
    (subst (λ (n : ℕ). c.args.at < n) (sym c.self.invariant.0) below, closes (g.X.FitsAt.fits shared.key.tag.value) shared.key.first.value.items _ _ shared.key.tag.value below)

pub exchange-requires : goal.exchange-requires
exchange-requires g c =
    let got = c.swap_new_seat-found.ensures.1 c.if-found-ne-OPEN.false in let mine = ap (λ m. m.1) got.1 in
    (c.swap_new_seat-found.ensures.0, (Some got.0, mine ∙ sym (ap (λ (l : List (ℕ × Option g.row.X.Denot)). (c.args.at, Some got.0) ∷ rest l) mine)))
