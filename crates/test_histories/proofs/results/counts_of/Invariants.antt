use Rattle.std.proofs.Common.{◌≤◌, length, map}
use Rattle.grb_results.specs.Kept.{IsTableOf}
use Rattle.test_histories.proofs.results.counts_of.Given as goal

abbrev pub invariant-steps : goal.invariant-steps
invariant-steps l = record {
  table : IsTableOf (map (λ c. c.now) l.done.items) l.table;
  few : length l.done.items ≤ l.at;
}
