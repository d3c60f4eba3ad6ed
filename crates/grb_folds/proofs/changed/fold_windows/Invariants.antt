use Rattle.std.proofs.Common.{length, ◌-◌}
use Rattle.grb_folds.proofs.Windows.{IsUnderWay}
use Rattle.grb_folds.proofs.changed.fold_windows.Given as goal

-- the windows so far
abbrev pub invariant-loop-start : goal.invariant-loop-start
invariant-loop-start g l = IsUnderWay g.M.MonoidOver.monoid g.T.Scalar.value l.values l.places l.start (g.T.Scalar.value l.sum)

abbrev pub decreases-loop-start : goal.decreases-loop-start
decreases-loop-start g l = length l.values - l.start
