use Rattle.std.proofs.Common.{◌≡◌, ◌≢◌, ◌<◌, ℕ, true, Some}
use Rattle.grb_core.specs.Monoid.{identity_of}
use Rattle.grb_sums.specs.Bits.{value_at}
use Rattle.grb_push.proofs.late.all_differ.Given as goal

-- those so far differ
abbrev pub invariant-sums : goal.invariant-sums
invariant-sums g l = l.differ ≡ true → (p : ℕ) → p < l.p → value_at g.T.Scalar.value l.sums p ≢ Some (identity_of g.M.MonoidOver.monoid)
