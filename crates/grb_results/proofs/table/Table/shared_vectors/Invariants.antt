use Rattle.std.proofs.Common.{◌≡◌, length}
use Rattle.grb_results.proofs.Prelude.{AreVectorsOf, OfEach}
use Rattle.grb_results.proofs.table.Table.shared_vectors.Given as goal

abbrev pub invariant-vectors : goal.invariant-vectors
invariant-vectors l = record {
  stored : AreVectorsOf l.self l.all.items l.number;
  assembled : OfEach (λ x. x.assembled) l.all.items;
  count : length l.all.items ≡ l.number;
}
