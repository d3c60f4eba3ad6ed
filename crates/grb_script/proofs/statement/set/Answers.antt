use Rattle.std.proofs.Common.{Err, Some, None, sym, ap, ◌∙◌}
use Rattle.std.proofs.lemmas.Result.{err_from_is_err_and}
use Rattle.grb_script.proofs.Prelude.{name_found, now_of}
use Rattle.grb_script.proofs.FormLemmas.{reading-set_form, some_of_ok, none_of_err}
use Rattle.grb_script.proofs.statement.set.Goals as goal

pub returns-in_err-name : goal.returns-in_err-name
returns-in_err-name c =
    let p = err_from_is_err_and c.from_residual.result c.from_residual.ensures.1 in
    let none = none_of_err (name_found c.args.names.now c.args.name.now) _ _ c.in_err-name.ensures in
    p.1 ∙ ap Err (p.2 ∙ none.1)
    ∙ reading-set_form c.args.names.now c.args.name.now (now_of c.args.others.now) c.in-Some.indices c.in-Some.value None (sym c.in-Some.is ∙ c.indices_and_value_of.ensures) none.0

pub returns : goal.returns
returns c =
    c.set_at.ensures
    ∙ reading-set_form c.args.names.now c.args.name.now (now_of c.args.others.now) c.in-Some.indices c.in-Some.value (Some (c.in_ok-name.name, c.in_ok-name.sort)) (sym c.in-Some.is ∙ c.indices_and_value_of.ensures)
    (some_of_ok (name_found c.args.names.now c.args.name.now) _ (c.in_ok-name.name, c.in_ok-name.sort) c.in_ok-name.ensures)
