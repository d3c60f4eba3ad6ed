use Rattle.std.proofs.Common.{◌≡◌}
use Rattle.grb_results.proofs.Prelude.{IsTable}
use Rattle.grb_results.proofs.table.Table.make_all.Given as goal

abbrev pub invariant-calls : goal.invariant-calls
invariant-calls g l = record {
  same : l.calls ≡ l.initial.calls;
  table : IsTable (g.C.CallList.calls l.source l.initial.calls) l.self;
  learnt : l.self.learnt ≡ l.initial.self.learnt;
}
