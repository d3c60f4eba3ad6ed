use Rattle.std.proofs.Common.{◌∙◌}
use Rattle.grb_script.proofs.NamesLemmas.{name_found-some, name_found-none}
use Rattle.grb_script.proofs.names.Names.find_by_hash.Goals as goal

pub returns-in_err-number : goal.returns-in_err-number
returns-in_err-number c =
    rw (← c.self.view_is) (c.from_residual.ensures ∙ name_found-none (λ name. name.items) c.self.inside.sorts.entries c.args.name.now c.in_err-number.ensures.value)

pub returns : goal.returns
returns c =
    rw (← c.self.view_is) (name_found-some (λ name. name.items) c.self.inside.sorts.entries c.args.name.now c.in_ok-number.number c.in_ok-number.sort.now c.in_ok-number.ensures.index c.in_ok-number.ensures.value)
