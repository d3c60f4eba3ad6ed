use Rattle.std.proofs.Common.{◌≡◌, ℕ, suc, ◌<◌, ◌≤◌, ◌+◌, [], ◌∷◌, ◌++◌, List, length, drop, add-one, sym, ap, ◌∙◌, subst, arith}
use Rattle.grb_pass.proofs.Prelude.{length_push, fresh, Holding, TableId, room_of, no_rows, Knowing, none_made, AreNew}
use Rattle.grb_pass.proofs.Opening.{next_seat, fresh_at, new_at, new_more, all_opened, none_left}
use Rattle.grb_pass.proofs.shared.passes_of.Goals as goal

pub open-requires-clause-number : goal.open-requires-clause-number
open-requires-clause-number g c =
    let now : (length c.loop-seat.opened.items < c.args.passes) × (c.in-Some.seat ≡ fresh_at c.args.order.now c.args.passes (length c.loop-seat.opened.items)) × (drop (suc (length c.loop-seat.opened.items)) c.args.seats.items ≡ c.next.new.self.rest.items)
    = next_seat c.args.order.now c.args.passes c.args.seats.items (length c.loop-seat.opened.items) c.in-Some.seat c.next.new.self.rest.items c.requires.seats (sym c.loop-seat.invariant.rest ∙ c.in-Some.ensures.steps.0) in
    let n : c.len-number.result ≡ length c.loop-seat.opened.items = c.len-number.ensures ∙ c.loop-seat.opened.ok.0 in
    let passes : c.in-Some.seat.view.passes ≡ c.args.passes = ap (λ (h : Holding). h.view.passes) now.1 in
    (n ∙ sym (ap (λ (h : Holding). h.view.number) now.1), omega (arith, now.0))

pub open-requires-clause-room : goal.open-requires-clause-room
open-requires-clause-room g c =
    let now : (length c.loop-seat.opened.items < c.args.passes) × (c.in-Some.seat ≡ fresh_at c.args.order.now c.args.passes (length c.loop-seat.opened.items)) × (drop (suc (length c.loop-seat.opened.items)) c.args.seats.items ≡ c.next.new.self.rest.items)
    = next_seat c.args.order.now c.args.passes c.args.seats.items (length c.loop-seat.opened.items) c.in-Some.seat c.next.new.self.rest.items c.requires.seats (sym c.loop-seat.invariant.rest ∙ c.in-Some.ensures.steps.0) in
    (sym c.requires.room.0 ∙ sym (ap (λ (h : Holding). room_of h.table_id) now.1), c.requires.room.1)

pub open-requires-clause-fresh : goal.open-requires-clause-fresh
open-requires-clause-fresh g c =
    let now : (length c.loop-seat.opened.items < c.args.passes) × (c.in-Some.seat ≡ fresh_at c.args.order.now c.args.passes (length c.loop-seat.opened.items)) × (drop (suc (length c.loop-seat.opened.items)) c.args.seats.items ≡ c.next.new.self.rest.items)
    = next_seat c.args.order.now c.args.passes c.args.seats.items (length c.loop-seat.opened.items) c.in-Some.seat c.next.new.self.rest.items c.requires.seats (sym c.loop-seat.invariant.rest ∙ c.in-Some.ensures.steps.0) in
    let n : c.len-number.result ≡ length c.loop-seat.opened.items = c.len-number.ensures ∙ c.loop-seat.opened.ok.0 in
    ap (λ (h : Holding). h.view) now.1 ∙ (λ i. fresh (sym n i) (sym (ap (λ (h : Holding). h.view.passes) now.1) i))

pub loop-seat-preserved : goal.loop-seat-preserved
loop-seat-preserved g c =
    let order : TableId = c.args.order.now in let passes : ℕ = c.args.passes in let opened : List Knowing = c.loop-seat.opened.items in
    let now : (length opened < passes) × (c.in-Some.seat ≡ fresh_at order passes (length opened)) × (drop (suc (length opened)) c.args.seats.items ≡ c.next.new.self.rest.items)
    = next_seat order passes c.args.seats.items (length opened) c.in-Some.seat c.next.new.self.rest.items c.requires.seats (sym c.loop-seat.invariant.rest ∙ c.in-Some.ensures.steps.0) in
    let pass : Knowing = c.in_ok-open.field-0 in
    let is : pass ≡ new_at order passes (length opened) = c.in_ok-open.ensures ∙ ap (λ (h : Holding). record { order = h.table_id; view = h.view; shown = []; steps = 0; statuses = no_rows (room_of h.table_id); settled = 0; made = none_made }) now.1 in
    let n : length c.push_reserved.new.self.items ≡ length opened + 1 = ap length c.push_reserved.ensures.items ∙ length_push opened pass in
    let more : AreNew order passes (opened ++ pass ∷ []) (length opened + 1) = new_more order passes opened pass c.loop-seat.invariant.opened is in
    record {
      rest = sym now.2 ∙ ap (λ (m : ℕ). drop m c.args.seats.items) (sym (n ∙ add-one (length opened)));
      opened = subst (λ (y : List Knowing × ℕ). AreNew order passes y.0 y.1) (λ i. (sym c.push_reserved.ensures.items i, sym n i)) more;
      few = omega (arith, now.0);
      capacity = subst (λ (m : ℕ). c.args.passes ≤ m) (sym c.push_reserved.ensures.capacity) c.loop-seat.invariant.capacity;
    }

pub returns : goal.returns
returns g c = all_opened c.args.order.now c.args.passes c.args.seats.items c.loop-seat.opened.items c.requires.seats (sym c.loop-seat.invariant.rest ∙ none_left c.loop-seat.seat-iterator.rest.items _ c.loop-seat.seat-iterator.rest.ok.0 c.in-None.ensures.steps.0) c.loop-seat.invariant.few c.loop-seat.invariant.opened
