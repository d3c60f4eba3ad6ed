use Rattle.std.proofs.Common.{◌≤◌, ◌-◌}
use Rattle.grb_pull.specs.RowSums.{IsRowSum}
use Rattle.grb_pull.proofs.row_sums.sum_each.Given as goal

-- the entries so far
abbrev pub invariant-entries : goal.invariant-entries
invariant-entries g l = record {
  after : l.start ≤ l.at;
  before : l.at ≤ l.end;
  so_far : IsRowSum g.M.MonoidOver.monoid g.T.Scalar.value (g.R.SumRule.adds l.rule) l.columns l.values l.start l.at (g.T.Scalar.value l.sum);
}

abbrev pub decreases-entries : goal.decreases-entries
decreases-entries g l = l.end - l.at
