use Rattle.grb_numbers.proofs.Commuting.{calls_answer_the_same, calls_are_refused_alike, calls_leave_the_same, histories_leave_the_same}
use Rattle.grb_numbers.proofs.laws.calls_commute.Goals as goal

pub returns-clause-refusals : goal.returns-clause-refusals
returns-clause-refusals c = calls_are_refused_alike

pub returns-clause-answers : goal.returns-clause-answers
returns-clause-answers c = calls_answer_the_same

pub returns-clause-after : goal.returns-clause-after
returns-clause-after c = calls_leave_the_same

pub returns-clause-histories : goal.returns-clause-histories
returns-clause-histories c = histories_leave_the_same
