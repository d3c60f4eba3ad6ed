use Rattle.std.proofs.Common.{◌≡◌, ◌<◌, ℕ, false, get_or}
use Rattle.grb_folds.proofs.changed.clear.Given as goal

-- no mark so far
abbrev pub invariant-marks : goal.invariant-marks
invariant-marks l = (q : ℕ) → q < l.mark-index → get_or l.marks q false ≡ false
