use Rattle.grb_context.specs.Known.{IsPassOf}
use Rattle.test_store.proofs.tests.steps.expect_steps.Given as goal

abbrev pub invariant-steps : goal.invariant-steps
invariant-steps g l = IsPassOf l.context l.pass
