use Rattle.std.proofs.Common.{◌≡◌, ◌≤◌, ◌+◌, ◌-◌, length}
use Rattle.grb_pull.specs.RowSums.{added, AreSums}
use Rattle.grb_semirings.proofs.Folds.{IsFolding}
use Rattle.grb_pull.proofs.rows.fill_sums.Given as goal

-- the sums so far, and the last of them
abbrev pub invariant-entries : goal.invariant-entries
invariant-entries g l =
    let tv = g.T.Scalar.value in
    let m = g.M.MonoidOver.monoid in
    let adds = g.R.SumRule.adds l.rule in
    record {
      at : l.at ≤ l.upto - l.from;
      room : length l.sums ≡ length l.fn.sums;
      sum : IsFolding m (added tv adds l.columns l.values l.from (l.from + l.at)) (tv l.sum);
      sums : AreSums m tv adds l.columns l.values l.from (l.from + l.at) l.sums;
    }

abbrev pub decreases-entries : goal.decreases-entries
decreases-entries g l = (l.upto - l.from) - l.at
