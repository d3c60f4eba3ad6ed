use Rattle.std.proofs.Common.{◌<◌, subst}
use Rattle.std.specs.Prelude.{All, IfSome}
use Rattle.grb_lists.specs.Cells.{decoded}
use Rattle.grb_jobs.specs.Blocks.{Product}
use Rattle.grb_jobs.proofs.inputs.Inputs.bound.Goals as goal

pub returns-clause-in_range : goal.returns-clause-in_range
returns-clause-in_range c =
    subst (λ (p : Product). IfSome c.lists_of.result (λ m. All (λ e. e.0.1 < p.ncols) (decoded m.now.entries))) c.self.view_is
    (c.lists_of.ensures.in_range c.self.inside.second.matrix.ncols c.self.invariant.mask_columns)
