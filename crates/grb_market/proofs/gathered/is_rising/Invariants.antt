use Rattle.std.proofs.Common.{◌≡◌, ◌∷◌, drop}
use Rattle.grb_market.proofs.Prelude.{is_sorted, cell_cmp, cells_of}
use Rattle.grb_market.proofs.gathered.is_rising.Given as goal

-- the last tuple and those to come rise just where all do
abbrev pub invariant-rest : goal.invariant-rest
invariant-rest l = is_sorted cell_cmp (cells_of (l.last ∷ drop l.tuple-index l.rest)) ≡ is_sorted cell_cmp (cells_of l.tuples)
