use Rattle.std.proofs.Common.{◌≡◌, ◌<◌, ◌≤◌, [], ◌∷◌, ◌++◌, length, sym, ap, ◌∙◌, subst, arith, eqb}
use mathlib.Core.Option.{none}
use prog.Atomic.{either}
use Rattle.atomic_table.specs.Table.{step, Allows}
use Rattle.grb_order.specs.Rule.{Orderly}
use Rattle.grb_order.specs.Word.{order_word}
use Rattle.grb_order.specs.View.{LookedLast, enters_word}
use Rattle.grb_order.specs.Steps.{tried, seen}
use Rattle.grb_order.specs.declared.standing.Standing.{Standing}
use Rattle.grb_order.proofs.Steps.{tries}
use Rattle.grb_order.proofs.Seats.{within, seated_enters, seated_learns, moved}
use Rattle.grb_order.proofs.order.Order.enter.Goals as goal

pub compare_exchange-found-requires : goal.compare_exchange-found-requires
compare_exchange-found-requires c =
    let p = c.seat.invariant in let v : Standing = c.seat.inside.table_seat.me.0 in
    let row = c.self.inside.table.shared in
    let here : length v.view.words ≡ c.len-at.result = sym (c.len-at.ensures ∙ c.seat.inside.words.ok.0 ∙ ap length p.words_are) in
    let same : c.seat.inside.table_seat.table_id ≡ row.table_id = ap (λ h. h.table_id) c.seat.view_is ∙ c.requires.order ∙ sym c.self.view_is in
    let wide : c.seat.inside.table_seat.table_id.words ≡ row.table_id.words = ap (λ z. z.words) same in
    let near : length v.view.words < c.seat.inside.table_seat.table_id.words = within _ v.view p.sound.looks (subst (λ h. LookedLast h.view) (sym c.seat.view_is) c.requires.looked) in
    let room : row.table_id.words ≡ row.key.room = c.self.invariant.1 in
    let own : c.order_word-own.result ≡ order_word v.view.number c.args.index = c.order_word-own.ensures ∙ ap (λ n. order_word n c.args.index) p.number_is in (
      same,
      omega arith,
      subst (λ o. Allows (Orderly row.key) row.table_id.slots c.seat.inside.table_seat.id c.seat.inside.table_seat.me c.len-at.result (λ x. either (eqb x 0) o x) (tried (step row.table_id.slots c.len-at.result 0 o none) c.seat.inside.table_seat.me))
          (sym own) (tries row.key _ _ _ c.args.index c.seat.inside.table_seat.me p.role here c.requires.index (omega arith)),
    )

pub push_reserved-requires : goal.push_reserved-requires
push_reserved-requires c =
    let p = c.seat.invariant in let v : Standing = c.seat.inside.table_seat.me.0 in
    let here : c.seat.inside.words.len ≡ length v.view.words = c.seat.inside.words.ok.0 ∙ ap length p.words_are in
    let near : length v.view.words < c.seat.inside.table_seat.table_id.words = within _ v.view p.sound.looks (subst (λ h. LookedLast h.view) (sym c.seat.view_is) c.requires.looked) in
    let room : c.seat.inside.table_seat.table_id.words ≤ c.seat.inside.words.cap = p.roomy in
    omega arith

pub invariant_of-seat : goal.invariant_of-seat
invariant_of-seat c =
    let p = c.seat.invariant in let v : Standing = c.seat.inside.table_seat.me.0 in let t = c.compare_exchange-found.ensures in
    let near : length v.view.words < c.seat.inside.table_seat.table_id.words = within _ v.view p.sound.looks (subst (λ h. LookedLast h.view) (sym c.seat.view_is) c.requires.looked) in
    let own : c.order_word-own.result ≡ order_word v.view.number c.args.index = c.order_word-own.ensures ∙ ap (λ n. order_word n c.args.index) p.number_is in
    moved _ _ _ _ _ _ _ _ _ _ (ap (λ z. z.words) t.0)
    (c.push_reserved.ensures.items ∙ ap (λ o. c.seat.inside.words.items ++ o ∷ []) own) c.push_reserved.ensures.capacity
    (ap (λ m. m.0) (t.2.0 c.if-found-eq0.true ∙ ap (λ o. seen c.seat.inside.table_seat.me (enters_word v.view o)) own)) (seated_enters _ _ _ _ _ v p near c.args.index c.requires.index)

pub push_reserved-requires-2 : goal.push_reserved-requires-2
push_reserved-requires-2 c =
    let p = c.seat.invariant in let v : Standing = c.seat.inside.table_seat.me.0 in
    let here : c.seat.inside.words.len ≡ length v.view.words = c.seat.inside.words.ok.0 ∙ ap length p.words_are in
    let near : length v.view.words < c.seat.inside.table_seat.table_id.words = within _ v.view p.sound.looks (subst (λ h. LookedLast h.view) (sym c.seat.view_is) c.requires.looked) in
    let room : c.seat.inside.table_seat.table_id.words ≤ c.seat.inside.words.cap = p.roomy in
    omega arith

pub invariant_of-seat-2 : goal.invariant_of-seat-2
invariant_of-seat-2 c =
    let p = c.seat.invariant in let v : Standing = c.seat.inside.table_seat.me.0 in let t = c.compare_exchange-found.ensures in
    let near : length v.view.words < c.seat.inside.table_seat.table_id.words = within _ v.view p.sound.looks (subst (λ h. LookedLast h.view) (sym c.seat.view_is) c.requires.looked) in
    let found = t.2.1 c.if-found-eq0.false in
    moved _ _ _ _ _ _ _ _ _ _ (ap (λ z. z.words) t.0) c.push_reserved-2.ensures.items c.push_reserved-2.ensures.capacity (ap (λ m. m.0) found.0) (seated_learns _ _ _ _ _ v p near c.compare_exchange-found.result found.1)

pub returns-then-found-eq0-clause-sound : goal.returns-then-found-eq0-clause-sound
returns-then-found-eq0-clause-sound c = (invariant_of-seat c).sound

pub returns-clause-sound : goal.returns-clause-sound
returns-clause-sound c = (invariant_of-seat-2 c).sound
