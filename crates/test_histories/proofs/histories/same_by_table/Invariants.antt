use Rattle.std.proofs.Common.{map}
use Rattle.grb_results.specs.Kept.{IsTableOf}
use Rattle.test_histories.proofs.histories.same_by_table.Given as goal

abbrev pub invariant-vectors : goal.invariant-vectors
invariant-vectors g l = record { table : IsTableOf (map (λ c. c.now) l.calls) l.table }

abbrev pub invariant-matrices : goal.invariant-matrices
invariant-matrices g l = record { table : IsTableOf (map (λ c. c.now) l.calls) l.table }
