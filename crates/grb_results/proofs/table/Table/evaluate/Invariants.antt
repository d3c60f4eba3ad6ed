use Rattle.std.proofs.Common.{◌≡◌, length, All}
use Rattle.grb_results.proofs.Prelude.{IsTable, IsToMake}
use Rattle.grb_results.proofs.table.Table.evaluate.Given as goal

abbrev pub invariant-making : goal.invariant-making
invariant-making g l = record {
  same : l.calls ≡ l.initial.calls;
  table : IsTable (g.C.CallList.calls l.source l.initial.calls) l.self;
  stack : All (IsToMake (g.C.CallList.calls l.source l.initial.calls) (length (g.C.CallList.calls l.source l.initial.calls))) l.stack.items;
  learnt : l.self.learnt ≡ l.initial.self.learnt;
  places : length l.self.results.items ≡ length l.initial.self.results.items;
}
