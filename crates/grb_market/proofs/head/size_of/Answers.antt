use Rattle.grb_market.proofs.FrontLemmas.{no_size}
use Rattle.grb_market.proofs.head.size_of.Goals as goal

pub returns-in_default-clause-is : goal.returns-in_default-clause-is
returns-in_default-clause-is c = no_size c.args.head c.args.line.now c.in_default.ensures.none
