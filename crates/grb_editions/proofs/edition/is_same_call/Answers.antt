use Rattle.std.proofs.Common.{sym, ◌∙◌}
use Rattle.grb_editions.proofs.SameCalls.{same}
use Rattle.grb_editions.proofs.edition.is_same_call.Goals as goal

pub returns-in_default : goal.returns-in_default
returns-in_default c = λ t. same c.args.a.now c.args.b.now (sym c.eq-in_default.ensures ∙ t)
