use Rattle.std.proofs.Common.{◌≡◌, length}
use Rattle.grb_results.proofs.Prelude.{AreMatricesOf, OfEach}
use Rattle.grb_results.proofs.table.Table.shared_matrices.Given as goal

abbrev pub invariant-matrices : goal.invariant-matrices
invariant-matrices l = record {
  stored : AreMatricesOf l.self l.all.items l.number;
  assembled : OfEach (λ m. m.assembled) l.all.items;
  count : length l.all.items ≡ l.number;
}
