use Rattle.std.proofs.Common.{◌∙◌}
use Rattle.grb_call.specs.declared.ids.Object.TheVariants.{Matrix, Vector}
use Rattle.test_histories.specs.declared.assembled.TheConstants.{A, U}
use Rattle.test_histories.proofs.assembled.expect_state.Goals as goal

pub expect_lent-requires-clause-matrix : goal.expect_lent-requires-clause-matrix
expect_lent-requires-clause-matrix g c = c.in-Some-Some.ensures.assembled ∙ c.requires (Matrix A)

pub expect_lent-requires-clause-vector : goal.expect_lent-requires-clause-vector
expect_lent-requires-clause-vector g c = c.in-Some-Some.ensures'.assembled ∙ c.requires (Vector U)
