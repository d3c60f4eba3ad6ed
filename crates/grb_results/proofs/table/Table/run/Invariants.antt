use Rattle.std.proofs.Common.{◌≡◌, ◌<◌, length, All}
use Rattle.grb_results.proofs.Prelude.{IsResult, IsToMake}
use Rattle.grb_results.proofs.table.Table.run.Given as goal

abbrev pub invariant-run : goal.invariant-run
invariant-run g l = record {
  same : l.calls ≡ l.initial.calls;
  stack : All (IsToMake (g.C.CallList.calls l.source l.initial.calls) (length (g.C.CallList.calls l.source l.initial.calls))) l.stack.items;
  near : l.last < length (g.C.CallList.calls l.source l.initial.calls);
  result : IsResult (g.C.CallList.calls l.source l.initial.calls) l.last l.value;
}

abbrev pub decreases-run : goal.decreases-run
decreases-run g l = length l.stack.items
