use Rattle.std.proofs.Common.{◌≡◌, sym, subst, ◌∙◌, ap}
use Rattle.grb_chronicle.specs.Linked.{MayFollow, Reached}
use Rattle.grb_chronicle.proofs.Turning.{turns_moves}
use Rattle.grb_chronicle.proofs.chronicle.Chronicle.turn.Goals as goal

pub compare_exchange-found-requires : goal.compare_exchange-found-requires
compare_exchange-found-requires g c =
    let h = c.self.invariant in
    let offer = c.plain-offer.ensures in
    let pen = c.no_pen-pen.ensures in
    let chain : c.page.inside.seen.book ≡ c.self.inside.latest.book = ap (λ (p : Reached g.row.E.Denot). p.chain) c.page.view_is ∙ (c.requires.chain ∙ sym c.self.view_is) in
    let told = c.args.next.now in
    let may : MayFollow g.E.Chained.follows c.page.inside.seen.log told = subst (λ (p : Reached g.row.E.Denot). MayFollow g.E.Chained.follows p.told told) (sym c.page.view_is) c.requires.follows in (
      ap (λ w. w.tracked) h,
      chain,
      pen.0 ∙ chain,
      offer.0,
      rw (ap (λ w. w.key) h, pen.1, offer.1, offer.3) (turns_moves g.E.Chained.follows c.page.inside.seen.log told c.page.inside.number c.page.invariant.0 may),
    )
