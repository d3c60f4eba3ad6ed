use Rattle.grb_context.specs.Known.{IsPassOf}
use Rattle.example_graph.proofs.work.edit.Given as goal

abbrev pub invariant-adding : goal.invariant-adding
invariant-adding l = IsPassOf l.context l.pass

abbrev pub invariant-cutting : goal.invariant-cutting
invariant-cutting l = IsPassOf l.context l.pass
