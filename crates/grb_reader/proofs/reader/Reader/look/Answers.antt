use Rattle.std.proofs.Common.{◌≡◌, ◌+◌, sym, ap, subst, arith, ◌∙◌}
use Rattle.grb_reader.proofs.Prelude.{look_steps, steps_of, Knowing}
use Rattle.grb_reader.proofs.Counted.{counts_look}
use Rattle.grb_reader.proofs.Readers.{kept_look, kept_order, sound_order, steady}
use Rattle.grb_reader.proofs.reader.Reader.look.Goals as goal

pub invariant_of-self : goal.invariant_of-self
invariant_of-self c =
    let seat = c.self.inside.seat in
    let same : c.look-look.new.seat.table_id ≡ seat.table_id = c.look-look.ensures.order ∙ sym (ap (λ p. p.order) c.self.view_is ∙ c.requires.order) in
    kept_order _ _ _ _ _ _ _ _ same (kept_look _ _ _ _ _ _ _ c.self.invariant _ c.look-look.result _ c.look-look.ensures.look (sound_order _ _ _ same c.look-look.ensures.sound))

pub returns-clause-steady : goal.returns-clause-steady
returns-clause-steady c = steady _ _ _ _ _ _ (invariant_of-self c) _ _ _ _

pub returns-clause-counts : goal.returns-clause-counts
returns-clause-counts c =
    let v = c.self.inside.seat.view in let w = c.look-look.new.seat.view in
    let n : look_steps c.look-look.result + steps_of v ≡ steps_of w = counts_look _ v c.look-look.result w c.look-look.ensures.look in
    subst (λ (p : Knowing). (c.self.inside.steps + c.steps_of_look.result) + steps_of p.view ≡ p.steps + steps_of w) c.self.view_is (omega (arith, n, c.steps_of_look.ensures.steps))
