use Rattle.grb_call.proofs.Lowest.{lowest-by_shapes, lowest-in_a_store}
use Rattle.grb_call.proofs.laws.the_lowest_refusal_is_answered.Goals as goal

pub returns-clause-by_shapes : goal.returns-clause-by_shapes
returns-clause-by_shapes c = λ s call. lowest-by_shapes s call

pub returns-clause-in_a_store : goal.returns-clause-in_a_store
returns-clause-in_a_store c = λ s call. lowest-in_a_store s call
