use Rattle.std.proofs.Common.{◌≡◌, ◌+◌, take, drop, []}
use Rattle.grb_market.proofs.Prelude.{cell_cmp, cells_of, map_from, count_apart}
use Rattle.grb_market.proofs.gathered.count_apart.Given as goal

abbrev pub invariant-loop-i : goal.invariant-loop-i
invariant-loop-i l = record {
  entries : l.earlier.entries ≡ map_from cell_cmp (cells_of (take l.i-index l.tuples));
  count : l.count + count_apart (cells_of (take l.i-index l.tuples)) (cells_of (drop l.i-index l.tuples)) ≡ count_apart [] (cells_of l.tuples);
  at : l.count ≡ l.i-index;
}
