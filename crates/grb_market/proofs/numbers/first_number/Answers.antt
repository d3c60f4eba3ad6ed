use Rattle.grb_market.proofs.FrontLemmas.{first_front, none_first}
use Rattle.grb_market.proofs.numbers.first_number.Goals as goal

pub returns-clause-some : goal.returns-clause-some
returns-clause-some c = first_front c.args.line.now c.in_ok-number.rest.now c.in_ok-number.number c.in_ok-number.ensures.some

pub returns-in_err-number-clause-none : goal.returns-in_err-number-clause-none
returns-in_err-number-clause-none c = rw c.from_residual.ensures (none_first c.args.line.now c.in_err-number.ensures.none)
