use Rattle.std.proofs.Common.{◌≡◌, length, List}
use Rattle.grb_results.proofs.Prelude.{Call, IsTable}
use Rattle.grb_results.proofs.table.Table.assemble_read.Given as goal

abbrev pub invariant-links : goal.invariant-links
invariant-links l = record {
  table : (cs : List Call) → IsTable cs l.initial.self → IsTable cs l.self;
  learnt : l.self.learnt ≡ l.initial.self.learnt;
  places : length l.self.results.items ≡ length l.initial.self.results.items;
}
