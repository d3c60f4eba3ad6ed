use Rattle.std.proofs.Common.{◌≡◌, None, ap, refl, sym, subst, ◌∙◌}
use Rattle.grb_chronicle.specs.Linked.{IsLast, Reached}
use Rattle.grb_generations.specs.Chain.{Chain}
use Rattle.grb_generations.specs.Keeping.{IsAtEnd}
use Rattle.grb_generations.specs.Placed.{IsPlaced}
use Rattle.grb_generations.specs.Seated.{Brings, GoesOn, Moves, Seated, Showing, Standing}
use Rattle.grb_generations.specs.Sites.{chain_of}
use Rattle.grb_generations.specs.declared.told.Told.{Told}
use Rattle.grb_generations.proofs.Ending.{sat_down}
use Rattle.grb_generations.proofs.Keeping.{sits}
use Rattle.grb_generations.proofs.member.Member.sit.Goals as goal

abbrev old_of : goal.After-drop-next-inside → Seated
old_of c = let i = c.self.inside in record { chain = i.generations.value; page = i.page; context = i.context.value; numbers = i.numbers.value; pass = i.pass; generation = i.generation; reason = i.reason }

abbrev new_of : goal.After-drop-next-inside → Seated
new_of c = let n = c.next.inside in record { chain = c.self.inside.generations.value; page = c.shown.inside.page; context = n.context.value; numbers = n.numbers.value; pass = c.args.pass; generation = n.generation; reason = None }

chain : (c : goal.After-drop-next-inside) → chain_of c.next.inside.ending.value.tag ≡ c.self.inside.generations.value
chain c = ap (λ (s : Standing). chain_of s.site) c.next.view_is ∙ ap (λ (x : Showing). chain_of x.next.site) c.shown.view_is ∙ c.requires.chain ∙ ap (λ (x : Seated). x.chain) (sym c.self.view_is)

placed : (c : goal.After-drop-next-inside) → IsPlaced (new_of c).chain.book (new_of c).context (new_of c).numbers (new_of c).generation (new_of c).page
placed c =
    let n = c.next.inside in let page : Reached Told = c.shown.inside.page in
    let as_shown : IsPlaced n.ending.value.tag.page.chain n.context.value n.numbers.value n.generation page =
    subst (λ (s : Standing). IsPlaced s.site.page.chain s.context s.numbers s.generation page) (sym c.next.view_is) c.shown.invariant.0 in
    subst (λ (x : Chain). IsPlaced x.book n.context.value n.numbers.value n.generation page) (chain c) as_shown

last : (c : goal.After-drop-next-inside) → IsLast (new_of c).page.told c.next.inside.ending.value.tag.mark
last c = subst (λ (s : Standing). IsLast c.shown.inside.page.told s.site.mark) (sym c.next.view_is) c.shown.invariant.1

goes : (c : goal.After-drop-next-inside) → GoesOn (new_of c).chain.room (new_of c).chain.members c.next.inside.ending.value.tag.mark c.args.pass
goes c =
    let own : GoesOn (old_of c).chain.room (old_of c).chain.members c.args.shown.next.site.mark c.args.pass =
    subst (λ (x : Seated). GoesOn x.chain.room x.chain.members c.args.shown.next.site.mark c.args.pass) (sym c.self.view_is) c.requires.goes_on in
    subst (λ (t : Told). GoesOn (old_of c).chain.room (old_of c).chain.members t c.args.pass) (sym (ap (λ (s : Standing). s.site.mark) c.next.view_is ∙ ap (λ (x : Showing). x.next.site.mark) c.shown.view_is)) own

pub invariant_of-self : goal.invariant_of-self
invariant_of-self c = (
  sits (new_of c) c.next.inside.ending.value.tag.mark (placed c) (last c) (goes c) refl,
  record { chain = ap (λ (x : Chain). x.book) (chain c); context_is = c.next.invariant.0.context_is; generation_is = c.next.invariant.0.generation_is },
)

pub returns : goal.returns
returns c =
    let old : Seated = old_of c in
    let end : IsAtEnd old.pass = subst (λ (x : Seated). IsAtEnd x.pass) (sym c.self.view_is) c.requires.end in
    let number : c.args.pass.view.number ≡ old.pass.view.number = c.requires.number ∙ ap (λ (x : Seated). x.pass.view.number) (sym c.self.view_is) in
    let brings : Brings old c.shown.inside.page = subst (λ (y : Seated × Reached Told). Brings y.0 y.1) (λ k. (sym c.self.view_is k, (sym c.shown.view_is k).page)) c.requires.carries in
    subst (λ (x : Seated). Moves x (new_of c)) c.self.view_is (sat_down old (new_of c) c.next.inside.ending.value.tag.mark end c.self.invariant.0 number refl (placed c) (last c) (goes c) brings)
