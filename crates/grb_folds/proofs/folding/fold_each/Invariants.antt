use Rattle.std.proofs.Common.{◌≤◌, ◌-◌}
use Rattle.grb_folds.proofs.Spans.{IsSpan}
use Rattle.grb_folds.proofs.folding.fold_each.Given as goal

-- the values so far
abbrev pub invariant-values : goal.invariant-values
invariant-values g l = record {
  after : l.start ≤ l.at;
  before : l.at ≤ l.end;
  so_far : IsSpan g.M.MonoidOver.monoid g.T.Scalar.value l.values l.start l.at (g.T.Scalar.value l.sum);
}

abbrev pub decreases-values : goal.decreases-values
decreases-values g l = l.end - l.at
