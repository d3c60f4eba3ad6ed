use Rattle.std.proofs.Common.{◌∙◌}
use Rattle.grb_call.specs.declared.ids.Object.TheVariants.{Vector}
use Rattle.test_histories.proofs.histories.same_replayed_vector.Goals as goal

pub expect_vector-requires : goal.expect_vector-requires
expect_vector-requires g c = c.in-Some.ensures.assembled ∙ c.requires (Vector c.args.v)
