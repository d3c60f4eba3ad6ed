use Rattle.std.proofs.Common.{◌≡◌, ◌≤◌, take, length}
use Rattle.std.specs.Prelude.{vec_capacity}
use Rattle.grb_context.specs.Known.{IsPassOf}
use Rattle.grb_context.specs.Ran.{AreAnswered}
use Rattle.grb_context.proofs.context.Context.run.Given as goal

abbrev pub invariant-loop-call : goal.invariant-loop-call
invariant-loop-call l = record {
  pass : IsPassOf l.self l.pass;
  each : AreAnswered l.self l.fn.pass (take l.call-index l.calls) l.answers.items l.pass;
  count : length l.answers.items ≡ l.call-index;
  capacity : length l.calls ≤ vec_capacity l.answers;
}
