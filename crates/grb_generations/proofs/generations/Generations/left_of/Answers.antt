use Rattle.std.proofs.Common.{◌≡◌, None, ap, refl, sym, subst, ◌∙◌}
use Rattle.grb_chronicle.specs.Linked.{IsLast, Reached}
use Rattle.grb_generations.specs.Chain.{Chain}
use Rattle.grb_generations.specs.Placed.{IsPlaced}
use Rattle.grb_generations.specs.Seated.{GoesOn, Seated, Showing, Standing}
use Rattle.grb_generations.specs.Sites.{chain_of}
use Rattle.grb_generations.specs.declared.told.Told.{Told}
use Rattle.grb_generations.proofs.Keeping.{sits}
use Rattle.grb_generations.proofs.generations.Generations.left_of.Goals as goal

pub invariant_of-result : goal.invariant_of-result
invariant_of-result c =
    let n = c.next.inside in let page : Reached Told = c.shown.inside.page in let site = n.ending.value.tag in
    let m : Seated = record { chain = record { room = n.room; members = c.self.inside.members; book = page.chain }; page = page; context = n.context.value; numbers = n.numbers.value; pass = c.args.seat.pass; generation = n.generation; reason = None } in
    let as_shown : IsPlaced site.page.chain n.context.value n.numbers.value n.generation page =
    subst (λ (s : Standing). IsPlaced s.site.page.chain s.context s.numbers s.generation page) (sym c.next.view_is) c.shown.invariant.0 in
    let placed : IsPlaced page.chain n.context.value n.numbers.value n.generation page = record { chain = refl; here = as_shown.here; count = as_shown.count; linked = as_shown.linked } in
    let last : IsLast page.told site.mark = subst (λ (s : Standing). IsLast page.told s.site.mark) (sym c.next.view_is) c.shown.invariant.1 in
    let shown : chain_of site ≡ chain_of c.args.shown.next.site = ap (λ (s : Standing). chain_of s.site) c.next.view_is ∙ ap (λ (x : Showing). chain_of x.next.site) c.shown.view_is in
    let mark : site.mark ≡ c.args.shown.next.site.mark = ap (λ (s : Standing). s.site.mark) c.next.view_is ∙ ap (λ (x : Showing). x.next.site.mark) c.shown.view_is in
    let room : c.args.self.now.room ≡ n.room = sym (ap (λ (x : Chain). x.room) (shown ∙ c.requires.chain)) ∙ c.next.invariant.2 in
    let members : c.args.self.now.members ≡ c.self.inside.members = ap (λ (x : Chain). x.members) (sym c.self.view_is) in
    let goes : GoesOn n.room c.self.inside.members site.mark c.args.seat.pass = subst (λ (y : Chain × Told). GoesOn y.0.room y.0.members y.1 c.args.seat.pass) (λ k. (record { room = room k; members = members k; book = page.chain }, sym mark k)) c.requires.goes_on in
    (sits m site.mark placed last goes refl, record { chain = sym as_shown.chain; context_is = c.next.invariant.0.context_is; generation_is = c.next.invariant.0.generation_is })
