use Rattle.std.proofs.Common.{take}
use Rattle.std.specs.Prelude.{map}
use Rattle.grb_semirings.proofs.Folds.{IsFolding}
use Rattle.grb_folds.proofs.folding.fold_quarters.Given as goal

-- the values so far of each quarter
abbrev pub invariant-loop-i : goal.invariant-loop-i
invariant-loop-i g l =
    let m = g.M.MonoidOver.monoid in
    let tv = g.T.Scalar.value in
    IsFolding m (map tv (take l.i l.first)) (tv l.sums.0)
    × IsFolding m (map tv (take l.i l.second)) (tv l.sums.1)
    × IsFolding m (map tv (take l.i l.third)) (tv l.sums.2)
    × IsFolding m (map tv (take l.i l.fourth)) (tv l.sums.3)
