use Rattle.std.proofs.Common.{sym, ◌∙◌}
use Rattle.grb_tuples.proofs.Listed.{cell_same, lists_same}
use Rattle.grb_tuples.proofs.Stored.{eq_cell}
use Rattle.grb_tuples.proofs.tuples.are_matrices_listed.Goals as goal

pub returns : goal.returns
returns c = λ t. lists_same eq_cell cell_same c.args.a.now c.args.b.now (sym c.eq.ensures ∙ t)
