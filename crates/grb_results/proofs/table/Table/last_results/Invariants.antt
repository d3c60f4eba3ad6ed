use Rattle.std.proofs.Common.{List}
use Rattle.grb_results.proofs.Prelude.{Call, AreKept, IsTable}
use Rattle.grb_results.proofs.table.Table.last_results.Given as goal

abbrev pub invariant-objects : goal.invariant-objects
invariant-objects l = (cs : List Call) → IsTable cs l.self → AreKept cs l.given.items
