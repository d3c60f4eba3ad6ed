use Rattle.std.proofs.Common.{◌≡◌, ◌-◌, ◌<◌, ℕ, All, Some, length, map}
use Rattle.std.specs.Prelude.{slice_get}
use Rattle.grb_context.specs.Known.{IsPassOf}
use Rattle.grb_c.specs.Opening.{HoldFrom}
use Rattle.grb_c.proofs.open.hand_out_all.Given as goal

-- the first passes are left, and the last handles, so many, have the others
abbrev pub invariant-loop-at : goal.invariant-loop-at
invariant-loop-at l = record {
  passes : All (IsPassOf l.context.value) l.rest.items;
  count : length l.passes ≡ l.n;
  left : length l.rest.items ≡ l.n - l.at;
  first : (k : ℕ) → k < l.n - l.at → slice_get l.rest.items k ≡ slice_get l.fn.opened.items k;
  hold : HoldFrom (l.n - l.at) l.context.value l.store (λ k p. slice_get l.fn.opened.items k ≡ Some p) (map (λ h. h.raw.session) l.passes);
}
