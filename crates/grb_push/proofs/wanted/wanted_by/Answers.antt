use Rattle.grb_sums.proofs.Rising.{indices_rise}
use Rattle.grb_push.proofs.WantedPlaces.{wanted_covers, wanted_inside}
use Rattle.grb_push.proofs.wanted.wanted_by.Goals as goal

pub invariant_of-result : goal.invariant_of-result
invariant_of-result c = record { rising = indices_rise c.args.mask.now.vector.entries c.indices.result.now c.indices.ensures.whole.ordered c.indices.ensures.indices }

pub returns-clause-covers : goal.returns-clause-covers
returns-clause-covers c = wanted_covers c.args.descriptor.structure c.args.descriptor.comp c.args.mask.now.vector.entries c.indices.result.now c.indices.ensures.indices c.if-descriptor.false

pub returns-clause-inside : goal.returns-clause-inside
returns-clause-inside c = wanted_inside c.args.descriptor.structure c.args.descriptor.comp c.args.mask.now.vector.entries c.indices.result.now c.indices.ensures.indices
