use Rattle.std.proofs.Common.{◌≤◌, ◌-◌, length}
use Rattle.grb_folds.proofs.Spans.{IsSpan}
use Rattle.grb_folds.proofs.folding.fold_values.Given as goal

-- the blocks so far
abbrev pub invariant-whole : goal.invariant-whole
invariant-whole g l = (l.at ≤ length l.values) × IsSpan g.M.MonoidOver.monoid g.T.Scalar.value l.values 0 l.at (g.T.Scalar.value l.sum)

abbrev pub decreases-whole : goal.decreases-whole
decreases-whole g l = length l.values - l.at
