use Rattle.std.proofs.Common.{refl}
use Rattle.grb_generations.specs.Seated.{stayed}
use Rattle.grb_generations.proofs.Moving.{stays_same}
use Rattle.grb_generations.proofs.member.Member.look_for_place.Goals as goal

pub returns-else-is_crowded_for-clause-comes : goal.returns-else-is_crowded_for-clause-comes
returns-else-is_crowded_for-clause-comes c = stayed (stays_same c.args.self.now c.args.self.now refl)
