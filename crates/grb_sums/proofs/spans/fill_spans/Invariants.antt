use Rattle.std.proofs.Common.{◌<◌, ℕ, length}
use Rattle.grb_sums.proofs.RowSpans.{AreBelow, IsStart}
use Rattle.grb_sums.proofs.spans.fill_spans.Given as goal

-- the numbers so far have their starts
abbrev pub invariant-numbers : goal.invariant-numbers
invariant-numbers l = record {
  below : AreBelow l.lists.rows l.k l.number;
  starts : (r : ℕ) → r < l.number → IsStart l.lists.rows l.starts (length l.lists.entries) l.spans r;
}
