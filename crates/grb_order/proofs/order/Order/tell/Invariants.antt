use Rattle.std.proofs.Common.{◌≡◌, ◌-◌, vec_len}
use Rattle.grb_order.specs.View.{is_told}
use Rattle.grb_order.specs.Seat.{IsSeat}
use Rattle.grb_order.proofs.order.Order.tell.Given as goal

abbrev pub invariant-loop-row : goal.invariant-loop-row
invariant-loop-row l = record {
  table : l.seat-inside.table_seat.table_id ≡ l.initial.seat-inside.table_seat.table_id;
  seated : IsSeat l.seat-inside;
  told : l.seat-inside.table_seat.me.0.told ≡ l.other-inside.words.items;
  whole : is_told l.seat-inside.table_seat.me.0.view l.other-inside.words.items ≡ is_told l.initial.seat-inside.table_seat.me.0.view l.other-inside.words.items;
}

abbrev pub decreases-loop-row : goal.decreases-loop-row
decreases-loop-row l = vec_len l.other-inside.words - vec_len l.seat-inside.words
