use Rattle.std.proofs.Common.{◌≡◌, sym, ap, subst, ◌∙◌}
use Rattle.grb_reader.proofs.Prelude.{IsSteady}
use Rattle.grb_reader.proofs.Readers.{kept_told, steady}
use Rattle.grb_reader.proofs.reader.Reader.tell.Goals as goal

pub invariant_of-self : goal.invariant_of-self
invariant_of-self c =
    let seat = c.self.inside.seat in
    let same : c.tell.new.seat.table_id ≡ seat.table_id = c.tell.ensures.order ∙ sym (ap (λ p. p.order) c.self.view_is ∙ c.requires.order) in
    kept_told _ _ _ _ _ _ c.other.inside.seat.view.words _ _ _ c.self.invariant same c.tell.ensures.told c.tell.ensures.others c.tell.ensures.sound

pub invariant_of-self-2 : goal.invariant_of-self-2
invariant_of-self-2 c =
    let seat = c.self.inside.seat in
    let same : c.tell.new.seat.table_id ≡ seat.table_id = c.tell.ensures.order ∙ sym (ap (λ p. p.order) c.self.view_is ∙ c.requires.order) in
    kept_told _ _ _ _ _ _ c.other.inside.seat.view.words _ _ _ c.self.invariant same c.tell.ensures.told c.tell.ensures.others c.tell.ensures.sound

pub returns-clause-steady : goal.returns-clause-steady
returns-clause-steady c = steady _ _ _ _ _ _ (invariant_of-self-2 c) _ _ _ _

pub returns-clause-steady_other : goal.returns-clause-steady_other
returns-clause-steady_other c = subst IsSteady c.other.view_is (steady _ _ _ _ _ _ c.other.invariant _ _ _ _)
