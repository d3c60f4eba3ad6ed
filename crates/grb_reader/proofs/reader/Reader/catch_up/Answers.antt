use Rattle.std.proofs.Common.{List, refl, ap, sym, subst, ◌∙◌}
use Rattle.std.specs.List.{All}
use Rattle.grb_reader.proofs.Prelude.{All-push, IsOf, Shown}
use Rattle.grb_reader.proofs.Learnt.{learns_then, learns_shown, unshown_few}
use Rattle.grb_reader.proofs.reader.Reader.catch_up.Goals as goal

pub returns-in_default-show-clause-refused : goal.returns-in_default-show-clause-refused
returns-in_default-show-clause-refused c = (refl, unshown_few c.unshown.self c.in-Some.ensures.next.within)

pub unshown-preserved : goal.unshown-preserved
unshown-preserved c =
    let old = c.args.self.now in let mid = c.unshown.self in let new = c.admit.new.self in let token = c.in-Some-show.token in
    let shown = ap (λ p. p.shown) c.admit.ensures in
    record {
      order = ap (λ p. p.order) c.admit.ensures ∙ c.unshown.invariant.order;
      of = subst (λ (l : List Shown). All (IsOf c.args.records.now) l) (sym shown) (All-push (IsOf c.args.records.now) mid.shown token c.unshown.invariant.of c.in-Some-show.ensures.of);
      view = ap (λ p. p.view) c.admit.ensures ∙ c.unshown.invariant.view;
      steps = ap (λ p. p.steps) c.admit.ensures ∙ c.unshown.invariant.steps;
      made = ap (λ p. p.made) c.admit.ensures ∙ c.unshown.invariant.made;
      learns = learns_then old mid new c.unshown.invariant.learns (learns_shown mid new token c.in-Some.word c.in-Some.ensures.next c.admit.ensures);
    }
