use Rattle.grb_market.proofs.FrontLemmas.{none_of_two, one_of_two}
use Rattle.grb_market.proofs.numbers.two_first.Goals as goal

pub returns-in_err-first-clause-none : goal.returns-in_err-first-clause-none
returns-in_err-first-clause-none c = rw c.from_residual.ensures (none_of_two c.args.line.now c.in_err-first.ensures.none)

pub returns-in_err-second-clause-none : goal.returns-in_err-second-clause-none
returns-in_err-second-clause-none c =
    rw c.from_residual-in_err-second.ensures (one_of_two c.args.line.now c.in_ok-first.rest.now c.in_ok-first.first c.in_ok-first.ensures.some c.in_err-second.ensures.none)
