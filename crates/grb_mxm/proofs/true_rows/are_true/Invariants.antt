use Rattle.std.proofs.Common.{◌≡◌, ◌<◌, ℕ, true, false, get_or}
use Rattle.grb_mxm.proofs.true_rows.are_true.Given as goal

-- those so far are true
abbrev pub invariant-values : goal.invariant-values
invariant-values l = l.all ≡ true → (k : ℕ) → k < l.i → get_or l.fn.values k false ≡ true
