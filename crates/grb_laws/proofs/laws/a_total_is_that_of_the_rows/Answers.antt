use Rattle.grb_laws.proofs.Totals.{total_of_rows}
use Rattle.grb_laws.proofs.laws.a_total_is_that_of_the_rows.Goals as goal

pub returns : goal.returns
returns c = total_of_rows
