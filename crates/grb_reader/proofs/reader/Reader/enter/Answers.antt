use Rattle.std.proofs.Common.{◌≡◌, None, length, subst, sym, ap, ◌∙◌}
use Rattle.grb_reader.proofs.Prelude.{order_word, enters_word, refused_by_shapes, ObjectShapes, shapes_of, store_of, Knowing, known}
use Rattle.grb_reader.proofs.Readers.{kept_won, kept_lost, kept_order, sound_order, steady}
use Rattle.grb_reader.proofs.reader.Reader.enter.Goals as goal

pub absorb_accepted-requires-clause-accepted : goal.absorb_accepted-requires-clause-accepted
absorb_accepted-requires-clause-accepted c =
    ap (λ (s : ObjectShapes). refused_by_shapes s c.args.call.now) c.self.invariant.shapes_are
    ∙ subst (λ (p : Knowing). refused_by_shapes (shapes_of (store_of (known p))) c.args.call.now ≡ None) (sym c.self.view_is) c.requires.accepted

pub invariant_of-self : goal.invariant_of-self
invariant_of-self c =
    let seat = c.self.inside.seat in let token = c.args.token in let back = sym c.self.view_is in
    let same : c.enter.new.seat.table_id ≡ seat.table_id = c.enter.ensures.order ∙ sym (ap (λ p. p.order) c.self.view_is ∙ c.requires.order) in
    let index : c.index.result ≡ token.index = c.index.ensures in
    kept_order _ _ _ _ _ _ _ _ same
    (kept_won _ _ _ _ _ _ _ c.self.invariant token c.args.call.now _ _ _ _
    (subst (λ (p : Knowing). length p.shown ≡ length p.view.words) back c.requires.shown)
    (subst (λ (p : Knowing). token.pass ≡ p.view.number) back c.requires.pass)
    c.requires.index
    (c.in-Won.ensures.entered.0 ∙ ap (λ n. enters_word seat.view (order_word seat.view.number n)) index)
    (sound_order _ _ _ same c.enter.ensures.sound)
    c.requires.call c.push_reserved.ensures.items c.push_reserved.ensures.capacity c.absorb_accepted.ensures.objects c.absorb_accepted.ensures.room)

pub invariant_of-self-in-Lost : goal.invariant_of-self-in-Lost
invariant_of-self-in-Lost c =
    let seat = c.self.inside.seat in
    let same : c.enter.new.seat.table_id ≡ seat.table_id = c.enter.ensures.order ∙ sym (ap (λ p. p.order) c.self.view_is ∙ c.requires.order) in
    let lost = c.in-Lost.ensures.entered in
    kept_order _ _ _ _ _ _ _ _ same (kept_lost _ _ _ _ _ _ _ c.self.invariant c.in-Lost.field-0 _ lost.0 lost.1 (sound_order _ _ _ same c.enter.ensures.sound))

pub returns-in-Won-clause-steady : goal.returns-in-Won-clause-steady
returns-in-Won-clause-steady c = steady _ _ _ _ _ _ (invariant_of-self c) _ _ _ _

pub returns-in-Lost-clause-steady : goal.returns-in-Lost-clause-steady
returns-in-Lost-clause-steady c = steady _ _ _ _ _ _ (invariant_of-self-in-Lost c) _ _ _ _
