use Rattle.std.proofs.Common.{Ok, ap, ◌∙◌}
use Rattle.grb_generations.proofs.Ending.{is_moved}
use Rattle.grb_generations.proofs.member.Member.show.Goals as goal

pub returns-in-Ok-clause-moved : goal.returns-in-Ok-clause-moved
returns-in-Ok-clause-moved c = λ e. c.show_with.ensures.moved (c.in-Ok.is ∙ ap Ok (is_moved c.in-Ok.moved e))
