use Rattle.std.proofs.Common.{sym, ◌∙◌}
use Rattle.grb_tuples.proofs.Listed.{index_same, lists_same}
use Rattle.grb_tuples.proofs.Stored.{eq_index}
use Rattle.grb_tuples.proofs.tuples.are_vectors_listed.Goals as goal

pub returns : goal.returns
returns c = λ t. lists_same eq_index index_same c.args.a.now c.args.b.now (sym c.eq.ensures ∙ t)
