use Rattle.std.proofs.Common.{◌≡◌, ◌≤◌, ◌<◌, ◌+◌, ◌-◌, ◌*◌, ℕ, true, length, get_or}
use Rattle.grb_core.specs.Monoid.{identity_of}
use Rattle.grb_kernels.specs.Bits.{has_bit}
use Rattle.grb_sums.specs.Naming.{name_in}
use Rattle.grb_sums.specs.Reach.{IsOutside}
use Rattle.grb_sums.proofs.Taken.{IsTaken}
use Rattle.grb_sums.proofs.Tops.{IsAmong}
use Rattle.grb_sums.proofs.marks.take_topped.Given as goal

-- the words of the words of tops so far are taken, and those bits are away
abbrev pub invariant-tops : goal.invariant-tops
invariant-tops g l = record {
  upto : l.h ≤ l.fn.upto;
  few : l.k ≤ 64 * (64 * l.h);
  within : l.k ≤ length l.fn.sums;
  zeros : (u : ℕ) → u < l.h → get_or l.tops u 0 ≡ 0;
  later : (u : ℕ) → l.h ≤ u → get_or l.tops u 0 ≡ get_or l.fn.tops u 0;
  outside : (u : ℕ) → IsOutside l.from l.upto u → get_or l.fn.tops u 0 ≡ 0;
  taken : IsTaken g.T.Scalar.value (identity_of g.M.MonoidOver.monoid) (name_in l.names) l.fn.words l.fn.sums (64 * l.h) l.k l.words l.columns l.sums l.values;
}

abbrev pub decreases-tops : goal.decreases-tops
decreases-tops g l = l.fn.upto - l.h

-- and of this one those words whose bit is not left
abbrev pub invariant-words : goal.invariant-words
invariant-words g l = record {
  within : l.k ≤ length l.fn.sums;
  inside : (t : ℕ) → t < 64 → has_bit l.left t ≡ true → (64 * l.h + t < length l.fn.words);
  among : IsAmong g.T.Scalar.value (identity_of g.M.MonoidOver.monoid) (name_in l.names) l.fn.words l.fn.sums l.h l.left l.k l.words l.columns l.sums l.values;
}

abbrev pub decreases-words : goal.decreases-words
decreases-words g l = l.left
