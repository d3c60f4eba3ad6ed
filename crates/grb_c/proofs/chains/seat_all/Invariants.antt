use Rattle.std.proofs.Common.{◌≡◌, ◌-◌, ◌<◌, ℕ, length, map}
use Rattle.std.specs.Prelude.{slice_get}
use Rattle.grb_c.specs.Chains.{HaveFrom}
use Rattle.grb_c.proofs.chains.seat_all.Given as goal

-- the first members are left, and the last handles, so many, have the others
abbrev pub invariant-loop-at : goal.invariant-loop-at
invariant-loop-at l = record {
  count : length l.passes ≡ l.n;
  left : length l.rest.items ≡ l.n - l.at;
  first : (k : ℕ) → k < l.n - l.at → slice_get l.rest.items k ≡ slice_get l.fn.members.items k;
  have : HaveFrom (l.n - l.at) l.store l.fn.members.items (map (λ h. h.raw.session) l.passes);
}
