use Rattle.grb_results.proofs.LastResults.{no_vector, none_of}
use Rattle.grb_results.proofs.table.Table.held_vector.Goals as goal

pub returns-in-Some-clause-none : goal.returns-in-Some-clause-none
returns-in-Some-clause-none c cs is =
    none_of _ _ c.ready_vector.result (λ none. no_vector cs c.args.self.now c.args.v c.in-Some.content.now is c.in-Some.ensures.last none) c.ready_vector.ensures.none
