use Rattle.grb_numbers.proofs.Next.{next_numbers_show_the_same}
use Rattle.grb_numbers.proofs.laws.next_numbers_show_the_same.Goals as goal

pub returns : goal.returns
returns c = next_numbers_show_the_same
