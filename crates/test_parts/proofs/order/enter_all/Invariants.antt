use Rattle.std.proofs.Common.{◌≡◌}
use Rattle.test_parts.proofs.order.enter_all.Given as goal

abbrev pub invariant-loop-index : goal.invariant-loop-index
invariant-loop-index l = l.seat.table_id ≡ l.order
