use Rattle.std.proofs.Common.{◌∙◌}
use Rattle.grb_call.specs.declared.ids.Object.TheVariants.{Matrix}
use Rattle.test_histories.proofs.histories.same_replayed_matrix.Goals as goal

pub expect_matrix-requires : goal.expect_matrix-requires
expect_matrix-requires g c = c.in-Some.ensures.assembled ∙ c.requires (Matrix c.args.a)
