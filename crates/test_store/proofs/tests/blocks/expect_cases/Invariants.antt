use Rattle.grb_context.specs.Known.{IsPassOf}
use Rattle.test_store.proofs.tests.blocks.expect_cases.Given as goal

abbrev pub invariant-cases : goal.invariant-cases
invariant-cases g l = record { pass : IsPassOf l.context l.pass }
