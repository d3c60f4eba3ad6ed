use Rattle.grb_market.proofs.FrontLemmas.{no_integer, no_pattern}
use Rattle.grb_market.proofs.head.entry_of.Goals as goal

pub returns-in_default-clause-is : goal.returns-in_default-clause-is
returns-in_default-clause-is c = no_integer c.args.head c.args.size c.args.line.now c.in-Uint64.is c.in_default.ensures.none

pub returns-in_default-two_numbers-clause-is : goal.returns-in_default-two_numbers-clause-is
returns-in_default-two_numbers-clause-is c = no_pattern c.args.head c.args.size c.args.line.now c.in-Bool.is c.in_default-two_numbers.ensures.none
