use Rattle.std.proofs.Common.{refl}
use Rattle.grb_generations.proofs.Moving.{stays_on, stays_same}
use Rattle.grb_generations.proofs.member.Member.make_objects.Goals as goal

pub matrices-init : goal.matrices-init
matrices-init c = stays_same c.args.self.now c.args.self.now refl

pub matrices-preserved : goal.matrices-preserved
matrices-preserved c = stays_on c.args.self.now c.matrices.self c.make_one.new.self c.matrices.invariant c.make_one.ensures

pub vectors-preserved : goal.vectors-preserved
vectors-preserved c = stays_on c.args.self.now c.vectors.self c.make_one-in-vectors.new.self c.vectors.invariant c.make_one-in-vectors.ensures
