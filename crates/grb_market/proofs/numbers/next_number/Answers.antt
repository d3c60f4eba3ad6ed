use Rattle.grb_market.proofs.FrontLemmas.{next_front, none_next}
use Rattle.grb_market.proofs.numbers.next_number.Goals as goal

pub returns-clause-some : goal.returns-clause-some
returns-clause-some c = next_front c.args.text.now c.behind_blanks.result.now c.in_ok-number.rest.now c.in_ok-number.number c.behind_blanks.ensures c.in_ok-number.ensures.some

pub returns-in_err-number-clause-none : goal.returns-in_err-number-clause-none
returns-in_err-number-clause-none c = rw c.from_residual.ensures (none_next c.args.text.now c.behind_blanks.result.now c.behind_blanks.ensures c.in_err-number.ensures.none)
