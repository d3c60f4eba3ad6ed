use Rattle.std.proofs.Common.{◌≤◌, ◌*◌, length}
use Rattle.grb_core.specs.Monoid.{identity_of}
use Rattle.grb_sums.specs.Naming.{name_in}
use Rattle.grb_sums.proofs.Taken.{IsTaken}
use Rattle.grb_sums.proofs.marks.take_words.Given as goal

-- the words so far are taken
abbrev pub invariant-words : goal.invariant-words
invariant-words g l = record {
  k : l.k ≤ 64 * l.w;
  within : l.k ≤ length l.fn.sums;
  taken : IsTaken g.T.Scalar.value (identity_of g.M.MonoidOver.monoid) (name_in l.names) l.fn.words l.fn.sums l.w l.k l.words l.columns l.sums l.values;
}
