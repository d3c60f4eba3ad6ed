use Rattle.grb_results.proofs.Exchanging.{also_from, taken_then}
use Rattle.grb_results.proofs.table.Table.take_places.Goals as goal

pub returns-in_err-take_one-clause-taken : goal.returns-in_err-take_one-clause-taken
returns-in_err-take_one-clause-taken c = taken_then c.args.self.now c.args.other.now c.places.self c.take_one.new.self c.places.invariant.taken c.in_err-take_one.ensures.taken

pub places-preserved : goal.places-preserved
places-preserved c = record {
  taken = taken_then c.args.self.now c.args.other.now c.places.self c.take_one.new.self c.places.invariant.taken c.in_ok-take_one.ensures.taken;
  also = also_from c.args.other.now c.places.self c.take_one.new.self c.args.first c.places.at c.in_ok-take_one.ensures.taken c.places.invariant.also c.in_ok-take_one.ensures.kept;
}
