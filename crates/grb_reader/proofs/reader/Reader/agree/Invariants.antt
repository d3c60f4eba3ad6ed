use Rattle.std.proofs.Common.{◌≡◌, ℕ, ◌<◌}
use Rattle.grb_reader.proofs.Prelude.{SharesCallAt}
use Rattle.grb_reader.proofs.reader.Reader.agree.Given as goal

abbrev pub invariant-loop-at : goal.invariant-loop-at
invariant-loop-at l = record {
  self : l.self ≡ l.initial.self;
  other : l.other ≡ l.initial.other;
  share : (at : ℕ) → at < l.at → SharesCallAt l.initial.self.shown l.initial.other.shown at;
}
