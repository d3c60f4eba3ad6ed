use Rattle.std.proofs.Common.{◌≡◌}
use Rattle.grb_results.proofs.Prelude.{IsSameBut, IsTableOf}
use Rattle.grb_results.proofs.table.Table.work_for_all.Given as goal

abbrev pub invariant-calls : goal.invariant-calls
invariant-calls g l = record {
  same : l.calls ≡ l.initial.calls;
  table : IsTableOf (g.C.CallList.calls l.source l.initial.calls) l.self;
  learnt : IsSameBut l.initial.self l.self;
  results : l.self.results ≡ l.initial.self.results;
}
