use Rattle.std.proofs.Common.{◌≡◌, ◌+◌, ◌<◌, length}
use Rattle.grb_results.proofs.Prelude.{IsTable}
use Rattle.grb_results.proofs.table.Table.learn_all.Given as goal

abbrev pub invariant-calls : goal.invariant-calls
invariant-calls g l = record {
  same : l.calls ≡ l.initial.calls;
  table : IsTable (g.C.CallList.calls l.source l.initial.calls) l.self;
  here : length l.self.learnt.nodes.items ≡ l.at;
  made : l.self.made ≡ l.initial.self.made;
  fewer : length l.initial.self.learnt.nodes.items < length (g.C.CallList.calls l.source l.initial.calls);
}
