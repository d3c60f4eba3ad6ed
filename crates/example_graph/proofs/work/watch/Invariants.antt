use Rattle.grb_context.specs.Known.{IsPassOf}
use Rattle.example_graph.proofs.work.watch.Given as goal

abbrev pub invariant-rounds : goal.invariant-rounds
invariant-rounds l = IsPassOf l.context l.pass
