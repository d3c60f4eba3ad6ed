use Rattle.std.proofs.Common.{◌≡◌, length}
use Rattle.grb_market.proofs.Prelude.{is_sorted, cell_cmp, cells_of, AreGathered}
use Rattle.grb_market.proofs.reader.gather.Given as goal

abbrev pub invariant-loop-rest : goal.invariant-loop-rest
invariant-loop-rest l = record {
  front : AreGathered l.head l.size l.behind (cells_of l.tuples.items) l.left l.rest;
  rising : l.rising ≡ is_sorted cell_cmp (cells_of l.tuples.items);
}

abbrev pub decreases-loop-rest : goal.decreases-loop-rest
decreases-loop-rest l = length l.rest
