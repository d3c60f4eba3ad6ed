use Rattle.std.proofs.Common.{ℕ, ◌<◌, ◌≤◌, length}
use Rattle.grb_results.proofs.Prelude.{IsKeptAt, IsTakenFrom}
use Rattle.grb_results.proofs.table.Table.take_places.Given as goal

abbrev pub invariant-places : goal.invariant-places
invariant-places l = record {
  taken : IsTakenFrom l.initial.self l.other l.self;
  also : (k : ℕ) → l.first ≤ k → k < l.at → k < length l.self.results.items → IsKeptAt l.other k → IsKeptAt l.self k;
}
