use Rattle.std.proofs.Common.{◌-◌}
use Rattle.grb_jobs.specs.Lists.{IsSoFar}
use Rattle.grb_jobs.proofs.job.Job.all_by.Given as goal

abbrev pub invariant-turns : goal.invariant-turns
invariant-turns g l = record {
  so_far : IsSoFar g.T.Scalar.value l.self.inputs l.at l.made.rows.items l.made.starts.items l.made.columns.items l.made.values.items;
}

abbrev pub decreases-turns : goal.decreases-turns
decreases-turns g l = l.self.inputs.nrows - l.at
