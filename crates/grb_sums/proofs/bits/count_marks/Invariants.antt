use Rattle.std.proofs.Common.{◌≡◌, ◌≤◌, ◌*◌, take, sum_by, count_ones}
use Rattle.grb_sums.proofs.bits.count_marks.Given as goal

-- the marks of the words so far
abbrev pub invariant-words : goal.invariant-words
invariant-words l = record {
  count : l.count ≡ sum_by (λ word. count_ones word) (take l.w l.words);
  most : l.count ≤ 64 * l.w;
}
