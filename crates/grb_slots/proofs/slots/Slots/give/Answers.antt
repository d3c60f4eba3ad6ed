use Rattle.std.proofs.Common.{ℕ, ◌<◌, ◌∷◌, ◌∙◌, Some, sym, ap, subst}
use Rattle.atomic_table.specs.Table.{rest}
use Rattle.grb_slots.proofs.Keeping.{opens}
use Rattle.grb_slots.proofs.slots.Slots.give.Goals as goal

pub store-requires : goal.store-requires
store-requires g c =
    let shared = c.self.inside.table.shared in let X = g.row.X.Denot in let mine = c.claim.invariant.0 in
    let same = ap (λ v. v.row) c.claim.view_is ∙ c.requires.row ∙ sym (λ i. (c.self.view_is i).row) in
    let below = subst (λ t. c.claim.inside.at < t.slots) same c.claim.invariant.1 in
    let put = c.exchange-nothing.ensures.3 ∙ ap (λ m. (m.0, (c.claim.inside.at, Some c.args.value) ∷ rest m.1)) mine in (
      c.exchange-nothing.ensures.0 ∙ same,
      subst (λ (n : ℕ). c.claim.inside.at < n) (sym c.self.invariant.0) below,
      opens (g.X.FitsAt.fits shared.key.tag.value) shared.key.first.value.items _ _ c.claim.inside.at _ _ c.claim.inside.found.value c.args.value put below
          (subst (λ t. g.X.FitsAt.fits t c.claim.inside.at c.args.value) (sym (λ i. (c.self.view_is i).tag)) (subst (λ (n : ℕ). g.X.FitsAt.fits c.args.self.now.tag n c.args.value) (sym (ap (λ v. v.at) c.claim.view_is)) c.requires.fits)),
    )
