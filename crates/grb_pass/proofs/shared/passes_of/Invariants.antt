use Rattle.std.proofs.Common.{◌≡◌, ◌≤◌, drop, length}
use Rattle.std.specs.Prelude.{vec_capacity}
use Rattle.grb_pass.proofs.Prelude.{AreNew}
use Rattle.grb_pass.proofs.shared.passes_of.Given as goal

abbrev pub invariant-loop-seat : goal.invariant-loop-seat
invariant-loop-seat g l = record {
  rest : l.seat-iterator.rest.items ≡ drop (length l.opened.items) l.fn.seats.items;
  opened : AreNew l.order l.passes l.opened.items (length l.opened.items);
  few : length l.opened.items ≤ l.passes;
  capacity : l.passes ≤ vec_capacity l.opened;
}
