use Rattle.std.proofs.Common.{◌≡◌, ◌+◌, List, length, map, drop}
use Rattle.grb_replay.proofs.Prelude.{Call, Store}
use Rattle.grb_replay.specs.Targets.{AreTargetsOf}
use Rattle.grb_replay.proofs.targets.Targets.go_on.Given as goal

abbrev pub invariant-calls : goal.invariant-calls
invariant-calls l = record {
  walked : (s : Store) (known : List Call) → AreTargetsOf s l.initial.self known → map (λ c. c.now) l.calls ≡ drop (length l.initial.self.targets) known → AreTargetsOf s l.self known;
  count : length l.self.targets ≡ length l.initial.self.targets + l.at;
  room : length l.self.targets + l.self.shapes.room ≡ length l.initial.self.targets + l.initial.self.shapes.room;
}
