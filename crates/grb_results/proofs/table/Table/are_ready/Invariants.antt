use Rattle.std.proofs.Common.{◌≡◌, List}
use Rattle.grb_results.proofs.Prelude.{Call, IsSameBut, IsTable}
use Rattle.grb_results.proofs.table.Table.are_ready.Given as goal

abbrev pub invariant-calls : goal.invariant-calls
invariant-calls l = record {
  table : (cs : List Call) → IsTable cs l.initial.self → IsTable cs l.self;
  results : l.self.results ≡ l.initial.self.results;
  same : IsSameBut l.initial.self l.self;
  here : l.self.settled ≡ l.at;
}
