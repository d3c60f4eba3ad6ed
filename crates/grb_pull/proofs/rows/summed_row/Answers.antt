use Rattle.std.proofs.Common.{◌≤◌, arith}
use Rattle.grb_pull.proofs.RowSums.{IsAdded, row_added}
use Rattle.grb_pull.proofs.rows.summed_row.Goals as goal

pub is_kept-requires : goal.is_kept-requires
is_kept-requires g c =
    let tv = g.T.Scalar.value in
    let m = g.M.MonoidOver.monoid in
    let adds = g.R.SumRule.adds c.args.rule.now in
    let start = c.args.start in
    let end = c.args.end in
    let order : start ≤ end = let l = c.requires.some in omega (arith, l) in
    let row : IsAdded m tv adds c.args.columns.now c.args.values.now c.requires.same start end (tv c.in-Some.sum) =
    row_added m tv adds c.args.columns.now c.args.values.now c.requires.same c.args.from start end c.args.upto c.args.sums.now
    c.index-sums-last.result c.index-sums-first.result c.in-Some.sum c.requires.sums c.requires.order order (omega (arith, c.if-end-upto.true)) c.requires.within
    c.index-sums-last.is c.index-sums-first.is c.in-Some.ensures in
    record {
      same = c.requires.same;
      some = c.requires.some;
      within = c.requires.end;
      in_range = c.requires.in_range;
      of_domain = row.of_domain;
      is_sum = row.is_sum;
    }
