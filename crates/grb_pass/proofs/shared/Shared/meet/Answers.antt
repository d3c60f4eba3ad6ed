use Rattle.std.proofs.Common.{◌≡◌, ap, sym, subst, ◌∙◌}
use Rattle.grb_pass.proofs.Prelude.{All, IsOf, Shared, Knowing, none_made}
use Rattle.grb_reader.specs.Meeting.{Met}
use Rattle.grb_reader.proofs.Counted.{begun}
use Rattle.grb_reader.proofs.Meeting.{met_begun}
use Rattle.grb_pass.proofs.Evaluating.{state_learns}
use Rattle.grb_pass.proofs.shared.Shared.meet.Goals as goal

pub meet-requires-clause-order : goal.meet-requires-clause-order
meet-requires-clause-order g c = ap (λ (p : Knowing). p.order) (c.pass.view_is ∙ c.begin.ensures.same) ∙ c.requires.pass.order ∙ sym (ap (λ (s : Shared). s.order) c.self.view_is)

pub meet-requires-clause-of : goal.meet-requires-clause-of
meet-requires-clause-of g c =
    subst (λ (p : Knowing). All (IsOf c.self.inside.records) p.shown) (sym (c.pass.view_is ∙ c.begin.ensures.same))
    (subst (λ (s : Shared). All (IsOf s.records) c.args.pass.now.shown) (sym c.self.view_is) c.requires.pass.records)

pub meet-requires-clause-order_other : goal.meet-requires-clause-order_other
meet-requires-clause-order_other g c = ap (λ (p : Knowing). p.order) c.other.view_is ∙ c.requires.other.order ∙ sym (ap (λ (s : Shared). s.order) c.self.view_is)

pub meet-requires-clause-of_other : goal.meet-requires-clause-of_other
meet-requires-clause-of_other g c =
    subst (λ (p : Knowing). All (IsOf c.self.inside.records) p.shown) (sym c.other.view_is)
    (subst (λ (s : Shared). All (IsOf s.records) c.args.other.now.shown) (sym c.self.view_is) c.requires.other.records)

pub meet-requires-clause-begun : goal.meet-requires-clause-begun
meet-requires-clause-begun g c = ap (λ (p : Knowing). p.steps) (c.pass.view_is ∙ c.begin.ensures.same)

pub meet-requires-clause-made : goal.meet-requires-clause-made
meet-requires-clause-made g c = ap (λ (p : Knowing). p.made) (c.pass.view_is ∙ c.begin.ensures.same)

pub returns-clause-met : goal.returns-clause-met
returns-clause-met g c =
    let p = c.pass.inside.reader in let q = c.other.inside.reader in
    let now : p ≡ begun c.args.pass.now = c.pass.view_is ∙ c.begin.ensures.same in
    let told : Met c.args.self.now p c.meet.new.self c.args.other.now c.meet.result =
    subst (λ (k : Knowing). Met c.args.self.now p c.meet.new.self k c.meet.result) c.other.view_is
    (subst (λ (s : Shared). Met s p c.meet.new.self q c.meet.result) c.self.view_is c.meet.ensures.met) in
    met_begun c.args.self.now c.args.pass.now p c.meet.new.self c.args.other.now c.meet.result now told

pub invariant_of-pass : goal.invariant_of-pass
invariant_of-pass g c =
    let p = c.pass.inside in let new = c.meet.new.self in let met = c.meet.ensures.met in
    let begun : p.reader.made ≡ none_made = ap (λ (k : Knowing). k.made) (c.pass.view_is ∙ c.begin.ensures.same) in
    state_learns p.reader new p.evaluated p.row.next met.learns (met.made ∙ sym begun) c.pass.invariant
