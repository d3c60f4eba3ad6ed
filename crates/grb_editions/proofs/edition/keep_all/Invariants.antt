use Rattle.std.proofs.Common.{◌<◌, ℕ, List}
use Rattle.std.specs.Prelude.{All}
use Rattle.grb_call.specs.declared.call.Call.{Call}
use Rattle.grb_results.specs.Kept.{AreKept, IsSameBut, KeepsAll, KeepsFrom}
use Rattle.grb_results.specs.Results.{IsTable}
use Rattle.grb_editions.proofs.edition.keep_all.Given as goal

abbrev pub invariant-results : goal.invariant-results
invariant-results l = record {
  table : (cs : List Call) → AreKept cs l.results → IsTable cs l.initial.table → IsTable cs l.table;
  same : IsSameBut l.initial.table l.table;
  stays : KeepsAll l.initial.table l.table;
  first : (n : ℕ) → All (λ k. k.at < n) l.results → KeepsFrom n l.initial.table l.table;
}
