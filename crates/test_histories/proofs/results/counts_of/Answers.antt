use Rattle.std.proofs.Common.{length, map, ap, arith}
use Rattle.test_histories.proofs.Grown.{none_all}
use Rattle.test_histories.proofs.results.counts_of.Goals as goal

pub steps-init : goal.steps-init
steps-init c = record {
  table = record { table = c.open-table.ensures.table _; all = none_all _ _ c.open-table.ensures.none (ap (map (λ a. a.now)) c.in_ok-done.ensures.items) };
  few = omega (arith, ap length c.in_ok-done.ensures.items);
}
