use Rattle.grb_generations.proofs.Chained.{one_history}
use Rattle.grb_generations.proofs.laws.one_history.Goals as goal

pub returns : goal.returns
returns c = λ g later are chained. one_history c.calls_commute.ensures.after c.next_numbers_show_the_same.ensures c.first_numbers_change_nothing.ensures.stores g later are chained
