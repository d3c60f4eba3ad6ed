use Rattle.std.proofs.Common.{◌≡◌, ◌-◌, length}
use Rattle.grb_order.specs.Order.{room_of}
use Rattle.test_parts.proofs.order.enter_next.Given as goal

abbrev pub invariant-loop-seat : goal.invariant-loop-seat
invariant-loop-seat l = l.seat.table_id ≡ l.order

abbrev pub decreases-loop-seat : goal.decreases-loop-seat
decreases-loop-seat l = room_of l.order - length l.seat.view.words
