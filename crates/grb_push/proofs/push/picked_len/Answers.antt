use Rattle.std.proofs.Common.{arith, length, ap}
use Rattle.std.proofs.lemmas.Grind.{common_steps}
use Rattle.grb_lists.specs.Cells.{decoded}
use Rattle.grb_push.proofs.Pushing.{columns_at-more}
use Rattle.grb_push.proofs.push.picked_len.Goals as goal

pub rows-preserved : goal.rows-preserved
rows-preserved g c =
    let more = columns_at-more c.args.lists.now.rows c.args.picks.now (decoded c.args.lists.now.entries) c.rows.i c.index-picks-i.result (omega arith) c.index-picks-i.is in
    let row = ap length c.row_columns.ensures.columns in
    grind (arith, common_steps, more, row, c.rows.invariant.count, c.rows.invariant.so_far)
