use Rattle.std.proofs.Common.{arith}
use Rattle.grb_push.proofs.WantedPlaces.{past_all}
use Rattle.grb_push.proofs.wanted.Wanted.wants.Goals as goal

pub returns-then-from-self-clause-wanted : goal.returns-then-from-self-clause-wanted
returns-then-from-self-clause-wanted c =
    past_all c.args.self.now.among c.args.self.now.names.now c.args.from c.args.place (omega (arith, c.if-from-self.true)) c.requires.passed
