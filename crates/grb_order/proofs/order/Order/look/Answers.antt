use Rattle.std.proofs.Common.{◌≡◌, ◌<◌, ◌≤◌, length, sym, refl, ap, ◌∙◌, arith}
use Rattle.grb_order.specs.declared.standing.Standing.{Standing}
use Rattle.grb_order.proofs.Steps.{looks}
use Rattle.grb_order.proofs.Seats.{seated_vacant, seated_learns, moved}
use Rattle.grb_order.proofs.order.Order.look.Goals as goal

pub load-found-requires : goal.load-found-requires
load-found-requires c =
    let p = c.seat.invariant in let v : Standing = c.seat.inside.table_seat.me.0 in
    let here : length v.view.words ≡ c.len-at.result = sym (c.len-at.ensures ∙ c.seat.inside.words.ok.0 ∙ ap length p.words_are) in
    let few : length v.view.words ≤ c.seat.inside.table_seat.table_id.words = p.sound.few in
    let same : c.seat.inside.table_seat.table_id ≡ c.self.inside.table.shared.table_id = ap (λ h. h.table_id) c.seat.view_is ∙ c.requires ∙ sym c.self.view_is in
    let wide : c.seat.inside.table_seat.table_id.words ≡ c.self.inside.table.shared.table_id.words = ap (λ z. z.words) same in
    (same, omega arith, looks c.self.inside.table.shared.key _ _ _ c.seat.inside.table_seat.me p.role here)

pub invariant_of-seat : goal.invariant_of-seat
invariant_of-seat c =
    let p = c.seat.invariant in let v : Standing = c.seat.inside.table_seat.me.0 in let t = c.load-found.ensures in
    let here : length v.view.words ≡ c.len-at.result = sym (c.len-at.ensures ∙ c.seat.inside.words.ok.0 ∙ ap length p.words_are) in
    let few : length v.view.words ≤ c.seat.inside.table_seat.table_id.words = p.sound.few in
    let same : c.seat.inside.table_seat.table_id ≡ c.self.inside.table.shared.table_id = ap (λ h. h.table_id) c.seat.view_is ∙ c.requires ∙ sym c.self.view_is in
    let wide : c.seat.inside.table_seat.table_id.words ≡ c.self.inside.table.shared.table_id.words = ap (λ z. z.words) same in
    let near : length v.view.words < c.seat.inside.table_seat.table_id.words = omega arith in
    moved _ _ _ _ _ _ _ _ _ _ (ap (λ z. z.words) t.0) refl refl (ap (λ m. m.0) (t.2.0 c.if-found-eq0.true)) (seated_vacant _ _ _ _ _ v p near)

pub invariant_of-seat-2 : goal.invariant_of-seat-2
invariant_of-seat-2 c =
    let p = c.seat.invariant in let v : Standing = c.seat.inside.table_seat.me.0 in let t = c.load-found.ensures in
    let here : length v.view.words ≡ c.len-at.result = sym (c.len-at.ensures ∙ c.seat.inside.words.ok.0 ∙ ap length p.words_are) in
    let few : length v.view.words ≤ c.seat.inside.table_seat.table_id.words = p.sound.few in
    let same : c.seat.inside.table_seat.table_id ≡ c.self.inside.table.shared.table_id = ap (λ h. h.table_id) c.seat.view_is ∙ c.requires ∙ sym c.self.view_is in
    let wide : c.seat.inside.table_seat.table_id.words ≡ c.self.inside.table.shared.table_id.words = ap (λ z. z.words) same in
    let near : length v.view.words < c.seat.inside.table_seat.table_id.words = omega arith in
    let found = t.2.1 c.if-found-eq0.false in
    moved _ _ _ _ _ _ _ _ _ _ (ap (λ z. z.words) t.0) c.push_reserved.ensures.items c.push_reserved.ensures.capacity (ap (λ m. m.0) found.0) (seated_learns _ _ _ _ _ v p near c.load-found.result found.1)

pub returns-then-found-eq0-clause-sound : goal.returns-then-found-eq0-clause-sound
returns-then-found-eq0-clause-sound c = (invariant_of-seat c).sound

pub returns-clause-sound : goal.returns-clause-sound
returns-clause-sound c = (invariant_of-seat-2 c).sound
