use Rattle.std.proofs.Common.{◌≡◌, ◌≤◌, ◌<◌, ◌-◌, ℕ, get_or}
use Rattle.grb_sums.proofs.marks.next_touched.Given as goal

abbrev pub invariant-blocks-2 : goal.invariant-blocks-2
invariant-blocks-2 l = record {
  onward : l.fn.from ≤ l.at;
  within : l.at ≤ l.fn.upto;
  none : (u : ℕ) → l.fn.from ≤ u → u < l.at → get_or l.fn.words u 0 ≡ 0;
}

abbrev pub decreases-blocks-2 : goal.decreases-blocks-2
decreases-blocks-2 l = l.fn.upto - l.at

abbrev pub invariant-rest : goal.invariant-rest
invariant-rest l = record {
  onward : l.fn.from ≤ l.at;
  within : l.at ≤ l.fn.upto;
  none : (u : ℕ) → l.fn.from ≤ u → u < l.at → get_or l.fn.words u 0 ≡ 0;
}

abbrev pub decreases-rest : goal.decreases-rest
decreases-rest l = l.fn.upto - l.at
