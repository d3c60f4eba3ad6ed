use Rattle.std.proofs.Common.{arith}
use Rattle.grb_ewise.proofs.RankLemmas.{rise_above}
use Rattle.grb_ewise.proofs.ranks.rank_of.Goals as goal

pub overflow_cast-result : goal.overflow_cast-result
overflow_cast-result c =
    let found = c.in-Some.ensures.found in
    let above = rise_above c.args.names.now c.requires.rising c.in-Some.at found.0 in
    let is = found.1 in
    let fits = c.ranges.column.fits in
    record { fits = omega (arith, above, is, fits) }
