use Rattle.std.proofs.Common.{get_or, Err}
use Rattle.std.proofs.lemmas.List.Sorted.{searched}
use Rattle.grb_lists.proofs.FlatLists.{not_there}
use Rattle.grb_ewise.proofs.ranks.place_of.Goals as goal

pub returns-in-Err-clause-absent : goal.returns-in-Err-clause-absent
returns-in-Err-clause-absent c =
    let places = searched c.args.indices.now c.args.index (Err c.in-Err.field-0) c.in-Err.ensures.position c.requires in
    λ k l e. not_there c.in-Err.field-0 k c.args.index (get_or c.args.indices.now k 0) (places.1 k) (λ m. places.2 k m l) e
