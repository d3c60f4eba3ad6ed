use Rattle.std.proofs.Common.{◌≡◌, ◌-◌, length}
use Rattle.grb_order.specs.Order.{room_of}
use Rattle.test_parts.proofs.order.look_at_all.Given as goal

abbrev pub invariant-loop : goal.invariant-loop
invariant-loop l = l.seat.table_id ≡ l.order

abbrev pub decreases-loop : goal.decreases-loop
decreases-loop l = room_of l.order - length l.seat.view.words
