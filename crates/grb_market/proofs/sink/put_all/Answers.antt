use Prim.{search}
use Rattle.std.proofs.Common.{arith, rules}
use Rattle.std.proofs.lemmas.Grind.{common_steps}
use Rattle.grb_market.proofs.Taken.{Appends_more}
use Rattle.grb_market.proofs.sink.put_all.Goals as goal

pub loop-count-preserved : goal.loop-count-preserved
loop-count-preserved g c = record {
  within = grind (arith, common_steps);
  taken = Appends_more _ _ _ _ _ _ c.loop-count.invariant.taken c.in_ok-more.ensures.taken;
  failures = search rules;
}
