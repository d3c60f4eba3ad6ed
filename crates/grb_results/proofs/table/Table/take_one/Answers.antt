use Rattle.std.proofs.Common.{ap}
use Rattle.grb_results.proofs.Prelude.{content_of}
use Rattle.grb_results.proofs.table.Table.take_one.Goals as goal

pub returns-in_ok-shared-in-Some-kept-clause-taken : goal.returns-in_ok-shared-in-Some-kept-clause-taken
returns-in_ok-shared-in-Some-kept-clause-taken c = record {
  taken = c.fill.ensures.taken c.args.other.now.results.items c.in-Some-kept.value.now c.in-Some-kept.ensures.kept (ap content_of c.in_ok-shared-in-Some-kept.ensures);
  places = c.fill.ensures.places;
  settled = c.fill.ensures.settled;
  stays = c.fill.ensures.stays;
  same = record { learnt = c.fill.ensures.same.learnt; made = c.fill.ensures.same.made };
}
