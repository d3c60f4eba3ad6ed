use Rattle.std.proofs.Common.{◌∙◌}
use Rattle.grb_results.proofs.Exchanging.{same_more}
use Rattle.grb_results.proofs.table.Table.drop_unmarked.Goals as goal

pub places-preserved : goal.places-preserved
places-preserved c = record {
  table = λ cs was. c.drop_unless.ensures.table cs (c.places.invariant.table cs was);
  same = same_more _ _ _ c.places.invariant.same c.drop_unless.ensures.same;
  places = c.drop_unless.ensures.places ∙ c.places.invariant.places;
}
