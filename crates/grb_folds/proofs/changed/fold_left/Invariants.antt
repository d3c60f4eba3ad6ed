use Rattle.std.proofs.Common.{◌≡◌, ◌++◌}
use Rattle.std.specs.Prelude.{map}
use Rattle.std.specs.Map.Iter.{deref_pair}
use Rattle.grb_folds.specs.Changed.{values_left}
use Rattle.grb_semirings.proofs.Folds.{IsFolding}
use Rattle.grb_folds.proofs.changed.fold_left.Given as goal

-- the changes so far, and those that follow
abbrev pub invariant-changes : goal.invariant-changes
invariant-changes g l =
    let so_far = map deref_pair l.yielded in
    (so_far ++ l.change-iterator ≡ l.changes.entries) × IsFolding g.M.MonoidOver.monoid (values_left so_far) (g.T.Scalar.value l.sum)
