use Rattle.std.proofs.Common.{◌≡◌, ◌∙◌, ◌+◌, ◌++◌, ◌∷◌, [], List, None, ap, refl, sym, subst}
use Rattle.grb_chronicle.specs.Linked.{MayFollow, Reached}
use Rattle.grb_context.specs.Known.{Knowing}
use Rattle.grb_generations.specs.Chain.{Chain}
use Rattle.grb_generations.specs.Follows.{Follows}
use Rattle.grb_generations.specs.Keeping.{IsAtEnd}
use Rattle.grb_generations.specs.Seated.{GoesOn, Moves, Seated, Standing}
use Rattle.grb_generations.specs.Sites.{IsEndOf, chain_of}
use Rattle.grb_generations.specs.declared.site.Site.{Site}
use Rattle.grb_generations.specs.declared.told.Told.{Told}
use Rattle.grb_generations.proofs.Ending.{StepsOn, end_left, stepped_member, stepped_moves}
use Rattle.grb_generations.proofs.member.Member.turn.Goals as goal

pub turn-requires-clause-follows : goal.turn-requires-clause-follows
turn-requires-clause-follows c =
    subst (λ (l : List Told). MayFollow Follows l c.args.mark.now) (sym (ap (λ (p : Reached Told). p.told) c.again-page.ensures ∙ ap (λ (x : Seated). x.page.told) c.self.view_is)) c.requires.follows

pub give-requires-2-clause-fits : goal.give-requires-2-clause-fits
give-requires-2-clause-fits c =
    let i = c.self.inside in let site : Site = i.ending.value.tag in
    let old : Seated = record { chain = i.generations.value; page = i.page; context = i.context.value; numbers = i.numbers.value; pass = i.pass; generation = i.generation; reason = i.reason } in
    let end : IsAtEnd i.pass = subst (λ (x : Seated). IsAtEnd x.pass) (sym c.self.view_is) c.requires.end in
    let chain : c.turn.new.page.chain ≡ i.page.chain = c.turn.ensures.chain ∙ ap (λ (p : Reached Told). p.chain) c.again-page.ensures in
    let told : c.turn.new.page.told ≡ i.page.told ++ c.args.mark.now ∷ [] = c.turn.ensures.told c.if-not-turn.false ∙ ap (λ (p : Reached Told). p.told ++ c.args.mark.now ∷ []) c.again-page.ensures in
    let last : c.args.mark.now.last ≡ i.pass = ap (λ (t : Told). t.last) c.requires.told ∙ ap (λ (x : Seated). x.pass) (sym c.self.view_is) in
    let left : IsEndOf site (record { pass = i.pass; page = c.turn.new.page }) = end_left old site c.turn.new.page c.args.mark.now c.self.invariant.0 end c.self.invariant.1 chain told last in
    subst (λ (y : Site × Knowing × Reached Told). IsEndOf y.0 (record { pass = y.1; page = y.2 })) (λ k. ((sym c.deref-4.ensures k).tag, sym c.replace-last.ensures.value k, sym c.again.ensures k)) left

abbrev old_of : goal.After-drop-copy-inside-2 → Seated
old_of c = let i = c.self.inside in record { chain = i.generations.value; page = i.page; context = i.context.value; numbers = i.numbers.value; pass = i.pass; generation = i.generation; reason = i.reason }

abbrev new_of : goal.After-drop-copy-inside-2 → Seated
new_of c = let i = c.copy.inside in record { chain = c.self.inside.generations.value; page = c.turn.new.page; context = i.context.value; numbers = i.numbers.value; pass = c.replace-last.new.dest; generation = i.generation; reason = None }

steps : (c : goal.After-drop-copy-inside-2) → StepsOn (old_of c) (new_of c) c.args.mark.now
steps c =
    let i = c.self.inside in let n = c.copy.inside in
    let copied = c.copy.view_is ∙ c.requires.copy in
    let view = c.self.view_is in
    let own : c.replace-last.new.dest ≡ c.args.own = c.replace-last.ensures.after in
    record {
      end = subst (λ (x : Seated). IsAtEnd x.pass) (sym view) c.requires.end;
      chain = refl;
      page = c.turn.ensures.chain ∙ ap (λ (p : Reached Told). p.chain) c.again-page.ensures;
      told = c.turn.ensures.told c.if-not-turn.false ∙ ap (λ (p : Reached Told). p.told ++ c.args.mark.now ∷ []) c.again-page.ensures;
      linked = c.number-linked.ensures.linked;
      is = c.requires.told ∙ (λ k. record { context = (sym copied k).context; numbers = (sym copied k).numbers; last = (sym view k).pass });
      generation = ap (λ (s : Standing). s.generation) copied ∙ c.requires.number ∙ ap (λ (x : Seated). x.generation + 1) (sym view);
      number = ap (λ (p : Knowing). p.view.number) own ∙ c.requires.own ∙ ap (λ (x : Seated). x.pass.view.number) (sym view);
      goes_on = subst (λ (y : Chain × Knowing). GoesOn y.0.room y.0.members c.args.mark.now y.1) (λ k. ((sym view k).chain, sym own k)) c.requires.goes_on;
      reason = refl;
    }

pub invariant_of-self : goal.invariant_of-self
invariant_of-self c =
    let copied = c.copy.view_is ∙ c.requires.copy in
    let chain : chain_of c.copy.inside.ending.value.tag ≡ c.self.inside.generations.value = ap (λ (s : Standing). chain_of s.site) copied ∙ c.requires.chain ∙ ap (λ (x : Seated). x.chain) (sym c.self.view_is) in
    (stepped_member (old_of c) (new_of c) c.args.mark.now c.self.invariant.0 (steps c), record { chain = ap (λ (x : Chain). x.book) chain; context_is = c.copy.invariant.0.context_is; generation_is = c.copy.invariant.0.generation_is })

pub returns-clause-moved : goal.returns-clause-moved
returns-clause-moved c = λ e. subst (λ (x : Seated). Moves x (new_of c)) c.self.view_is (stepped_moves (old_of c) (new_of c) c.args.mark.now c.self.invariant.0 (steps c))
