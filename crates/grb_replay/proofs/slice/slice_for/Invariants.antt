use Rattle.std.proofs.Common.{◌≡◌, ◌+◌, ◌≤◌, length, map}
use Rattle.grb_replay.proofs.Prelude.{entries, is_wanted}
use Rattle.grb_replay.proofs.Walked.{IsWalked}
use Rattle.grb_replay.proofs.slice.slice_for.Given as goal

abbrev pub invariant-back : goal.invariant-back
invariant-back l = record {
  within : l.at ≤ length l.calls;
  size : length l.chosen.items ≡ length l.calls;
  few : l.count + l.at ≤ length l.calls;
  walked : IsWalked (is_wanted l.fn.wanted) (entries l.targets (map (λ c. c.now) l.calls)) l.at l.chosen.items l.count (is_wanted l.wanted);
}

abbrev pub decreases-back : goal.decreases-back
decreases-back l = l.at
