use Rattle.std.proofs.Common.{◌≤◌}
use Rattle.grb_generations.specs.Seated.{Comes}
use Rattle.grb_generations.proofs.member.Member.attempts.Given as goal

abbrev pub invariant-moves : goal.invariant-moves
invariant-moves l = record {
  came : Comes l.fn.self l.self;
  later : l.fn.self.generation ≤ l.self.generation;
}
