use Rattle.test_histories.proofs.results.learnt.Goals as goal

pub learn_all-requires-clause-table : goal.learn_all-requires-clause-table
learn_all-requires-clause-table c = c.open-table.ensures.table _
