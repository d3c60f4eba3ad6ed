use Rattle.std.proofs.Common.{length, All}
use Rattle.grb_results.proofs.Prelude.{IsToMake}
use Rattle.grb_results.proofs.table.Table.go_back.Given as goal

abbrev pub invariant-back : goal.invariant-back
invariant-back g l = record {
  stack : All (IsToMake (g.C.CallList.calls l.source l.calls) (length (g.C.CallList.calls l.source l.calls))) l.stack.items;
  first : IsToMake (g.C.CallList.calls l.source l.calls) (length (g.C.CallList.calls l.source l.calls)) l.first;
}

abbrev pub decreases-back : goal.decreases-back
decreases-back g l = l.first
