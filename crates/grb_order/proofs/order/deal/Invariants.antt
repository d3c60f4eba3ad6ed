use Rattle.std.proofs.Common.{◌≡◌, []}
use Rattle.grb_order.specs.Steps.{dealing}
use Rattle.grb_order.specs.Order.{AreFresh}
use Rattle.grb_order.proofs.order.deal.Given as goal

abbrev pub invariant-loop-number : goal.invariant-loop-number
invariant-loop-number l = record {
  table : l.dealer.table_id ≡ l.row.table_id;
  dealer : l.dealer.me ≡ (dealing l.number l.size.passes, []);
  seats : AreFresh l.row.table_id l.size.passes l.seats.items l.number;
}
