use Rattle.grb_results.proofs.LastResults.{no_matrix, none_of}
use Rattle.grb_results.proofs.table.Table.held_matrix.Goals as goal

pub returns-in-Some-clause-none : goal.returns-in-Some-clause-none
returns-in-Some-clause-none c cs is =
    none_of _ _ c.ready_matrix.result (λ none. no_matrix cs c.args.self.now c.args.a c.in-Some.content.now is c.in-Some.ensures.last none) c.ready_matrix.ensures.none
