use Rattle.grb_numbers.proofs.First.{first_numbers_keep_answers, first_numbers_keep_calls, first_numbers_show_the_store}
use Rattle.grb_numbers.proofs.laws.first_numbers_change_nothing.Goals as goal

pub returns-clause-stores : goal.returns-clause-stores
returns-clause-stores c = first_numbers_show_the_store

pub returns-clause-calls : goal.returns-clause-calls
returns-clause-calls c = first_numbers_keep_calls

pub returns-clause-answers : goal.returns-clause-answers
returns-clause-answers c = first_numbers_keep_answers
