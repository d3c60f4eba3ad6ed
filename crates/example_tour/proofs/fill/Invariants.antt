use Rattle.grb_context.specs.Known.{IsPassOf}
use Rattle.example_tour.proofs.fill.Given as goal

abbrev pub invariant-entries : goal.invariant-entries
invariant-entries l = IsPassOf l.context l.pass
