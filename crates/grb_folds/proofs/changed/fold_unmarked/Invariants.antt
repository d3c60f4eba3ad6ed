use Rattle.std.proofs.Common.{false, get_or, take}
use Rattle.std.specs.Prelude.{map}
use Rattle.grb_folds.specs.Changed.{remaining}
use Rattle.grb_semirings.proofs.Folds.{IsFolding}
use Rattle.grb_folds.proofs.changed.fold_unmarked.Given as goal

-- the values so far
abbrev pub invariant-values : goal.invariant-values
invariant-values g l = IsFolding g.M.MonoidOver.monoid (remaining (λ q. get_or l.marks q false) (map g.T.Scalar.value (take l.i l.values))) (g.T.Scalar.value l.sum)
