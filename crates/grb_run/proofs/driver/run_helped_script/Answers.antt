use Prim.{search}
use Rattle.std.proofs.Common.{◌∙◌, ap, sym, refl, rules}
use Rattle.grb_run.proofs.Prelude.{flat_map, err_from_is_err_and, reply_line, sections_of, script_fault, steps_listed, all_of}
use Rattle.grb_run.proofs.LoadLemmas.{AreScriptSteps-of, IsWhyNotLoaded-of, ends}
use Rattle.grb_run.proofs.ScriptEnds.{stopped, began, crowded, seats_fit}
use Rattle.grb_run.proofs.Wrote.{wrote}
use Rattle.grb_run.proofs.driver.run_helped_script.Goals as goal

pub returns-clause-ok : goal.returns-clause-ok
returns-clause-ok g c = record {
  text = c.in_ok-text.text.items;
  given = c.in_ok-text.ensures.given;
  faultless = ap script_fault (sym c.deref.ensures.value) ∙ c.in_ok-script.ensures.read.0;
  fits = seats_fit c.args.room c.in_ok-text.text.items c.in_ok-script.script c.len.result (search rules) (c.in_ok-script.ensures.read.1 ∙ ap sections_of c.deref.ensures.value) c.in_ok-check_sections.ensures.fits;
  lines =
      wrote _ _ _ _ _ _ _ _
      (AreScriptSteps-of _ _ _ _ _ c.script.ensures.files_stay (c.in_ok-script.ensures.read.1 ∙ ap sections_of c.deref.ensures.value) c.in_ok-steps.ensures.steps) c.in_ok-answers.ensures.answers
      (ap (flat_map reply_line) c.deref-2.ensures.value) c.in_ok-put_lines.ensures.ok;
}

pub returns-in_err-answers-clause-err : goal.returns-in_err-answers-clause-err
returns-in_err-answers-clause-err g c =
    let p = err_from_is_err_and c.from_residual-in_err-answers.result c.from_residual-in_err-answers.ensures.1 in
    rw (p.1, p.2)
    (stopped _ _ _ c.in_ok-text.text.items (steps_listed c.in_ok-steps.steps) _ _ c.in_ok-text.ensures.given
    (ap script_fault (sym c.deref.ensures.value) ∙ c.in_ok-script.ensures.read.0)
    (seats_fit c.args.room c.in_ok-text.text.items c.in_ok-script.script c.len.result (search rules) (c.in_ok-script.ensures.read.1 ∙ ap sections_of c.deref.ensures.value) c.in_ok-check_sections.ensures.fits)
    (AreScriptSteps-of _ _ _ _ _ c.script.ensures.files_stay (c.in_ok-script.ensures.read.1 ∙ ap sections_of c.deref.ensures.value) c.in_ok-steps.ensures.steps) refl _
    c.in_err-answers.ensures.fault)

pub returns-in_err-put_lines-clause-err : goal.returns-in_err-put_lines-clause-err
returns-in_err-put_lines-clause-err g c =
    let p = err_from_is_err_and c.from_residual-in_err-put_lines.result c.from_residual-in_err-put_lines.ensures.1 in
    rw (p.1, p.2)
    (began _ _ _ c.in_ok-text.text.items (steps_listed c.in_ok-steps.steps) c.in_ok-answers.answers.items _ _ _ c.in_ok-text.ensures.given
    (ap script_fault (sym c.deref.ensures.value) ∙ c.in_ok-script.ensures.read.0)
    (seats_fit c.args.room c.in_ok-text.text.items c.in_ok-script.script c.len.result (search rules) (c.in_ok-script.ensures.read.1 ∙ ap sections_of c.deref.ensures.value) c.in_ok-check_sections.ensures.fits)
    (AreScriptSteps-of _ _ _ _ _ c.script.ensures.files_stay (c.in_ok-script.ensures.read.1 ∙ ap sections_of c.deref.ensures.value) c.in_ok-steps.ensures.steps) c.in_ok-answers.ensures.answers
    (ap (flat_map reply_line) c.deref-2.ensures.value) c.in_err-put_lines.ensures.err)

pub returns-in_err-check_sections-clause-err : goal.returns-in_err-check_sections-clause-err
returns-in_err-check_sections-clause-err g c =
    let p = err_from_is_err_and c.from_residual-in_err-check_sections.result c.from_residual-in_err-check_sections.ensures.1 in
    rw (p.1, p.2)
    (crowded _ _ _ c.in_ok-text.text.items c.in_ok-script.script _ _ _ c.in_ok-text.ensures.given
    (ap script_fault (sym c.deref.ensures.value) ∙ c.in_ok-script.ensures.read.0) (search rules)
    (c.in_ok-script.ensures.read.1 ∙ ap sections_of c.deref.ensures.value) refl _ c.in_err-check_sections.ensures.crowded)

pub returns-in_err-steps-clause-err : goal.returns-in_err-steps-clause-err
returns-in_err-steps-clause-err g c =
    let p = err_from_is_err_and c.from_residual-in_err-steps.result c.from_residual-in_err-steps.ensures.1 in
    rw (p.1, p.2)
    (ends _ _ _ c.in_ok-text.text.items _ _ c.in_ok-text.ensures.given
    (ap script_fault (sym c.deref.ensures.value) ∙ c.in_ok-script.ensures.read.0)
    (seats_fit c.args.room c.in_ok-text.text.items c.in_ok-script.script c.len.result (search rules) (c.in_ok-script.ensures.read.1 ∙ ap sections_of c.deref.ensures.value) c.in_ok-check_sections.ensures.fits)
    refl _
    (IsWhyNotLoaded-of _ _ (all_of (sections_of c.in_ok-text.text.items)) _ _ c.script.ensures.files_stay
    (ap all_of (c.in_ok-script.ensures.read.1 ∙ ap sections_of c.deref.ensures.value)) c.in_err-steps.ensures.fault))
