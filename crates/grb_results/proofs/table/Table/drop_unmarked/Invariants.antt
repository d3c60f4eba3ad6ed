use Rattle.std.proofs.Common.{◌≡◌, length, List}
use Rattle.grb_results.proofs.Prelude.{Call, IsSameBut, IsTable}
use Rattle.grb_results.proofs.table.Table.drop_unmarked.Given as goal

abbrev pub invariant-places : goal.invariant-places
invariant-places l = record {
  table : (cs : List Call) → IsTable cs l.initial.self → IsTable cs l.self;
  same : IsSameBut l.initial.self l.self;
  places : length l.self.results.items ≡ length l.initial.self.results.items;
}
