use Rattle.std.proofs.Common.{◌≡◌, ◌≤◌, All, length, vec_capacity}
use Rattle.grb_jobs.proofs.cells.cells_for.Given as goal

abbrev pub invariant-cells : goal.invariant-cells
invariant-cells l = record {
  room : l.count ≤ vec_capacity l.cells;
  many : length l.cells.items ≡ l.counter;
  tied : All (λ t. t.value ≡ l.tag.value) l.cells.items;
}
