use Rattle.std.proofs.Common.{◌≡◌, true, false, refl, sym, ap, subst, ◌∙◌}
use Rattle.grb_pass.proofs.Prelude.{Ok, Err, err_from_is_err_and, check_of, shapes_of, store_of, Knowing, known, checked_err, checked_plain, checked_build}
use Rattle.grb_call.specs.declared.checking.Kind.{Kind}
use Rattle.grb_call.specs.declared.checking.Kind.TheVariants.{Build}
use Rattle.grb_call.proofs.Checked.{by_shapes-ok}
use Rattle.grb_call.proofs.KindsChecked.{kind-checked}
use Rattle.grb_reader.specs.Reading.{IsChecked}
use Rattle.grb_pass.proofs.pass.Pass.check.Goals as goal

pub returns-in_err-in_bounds-clause-checked : goal.returns-in_err-in_bounds-clause-checked
returns-in_err-in_bounds-clause-checked g c =
    let call = c.args.call.now in let r = c.in_err-in_bounds.field-0.0 in
    let p = err_from_is_err_and c.from_residual.result c.from_residual.ensures.1 in
    rw (p.1, p.2) (subst (λ (k : Knowing). IsChecked (store_of (known k)) call (Err r)) c.self.view_is (checked_err (store_of (known c.self.inside.reader)) call r (sym c.check.ensures ∙ c.in_err-in_bounds.was)))

pub check_build-requires-clause-build : goal.check_build-requires-clause-build
check_build-requires-clause-build g c =
    let call = c.args.call.now in
    let e = ap (λ (k : Knowing). check_of (shapes_of (store_of (known k))) call) (sym c.self.view_is) ∙ sym c.check.ensures ∙ c.in_ok-in_bounds.was ∙ ap (λ (k : Kind). Ok k) c.in-Build.is in
    (kind-checked (shapes_of (store_of (known c.args.self.now))) call (Build c.in-Build.in_bounds) e).1

pub check_build-requires-clause-accepted : goal.check_build-requires-clause-accepted
check_build-requires-clause-accepted g c =
    let call = c.args.call.now in
    let e = ap (λ (k : Knowing). check_of (shapes_of (store_of (known k))) call) (sym c.self.view_is) ∙ sym c.check.ensures ∙ c.in_ok-in_bounds.was ∙ ap (λ (k : Kind). Ok k) c.in-Build.is in
    by_shapes-ok (store_of (known c.args.self.now)) call (Build c.in-Build.in_bounds) e

pub check_build-requires-clause-in_bounds : goal.check_build-requires-clause-in_bounds
check_build-requires-clause-in_bounds g c =
    let call = c.args.call.now in
    let e = ap (λ (k : Knowing). check_of (shapes_of (store_of (known k))) call) (sym c.self.view_is) ∙ sym c.check.ensures ∙ c.in_ok-in_bounds.was ∙ ap (λ (k : Kind). Ok k) c.in-Build.is in
    (kind-checked (shapes_of (store_of (known c.args.self.now))) call (Build c.in-Build.in_bounds) e).2

pub returns-in-Build-clause-checked : goal.returns-in-Build-clause-checked
returns-in-Build-clause-checked g c =
    let call = c.args.call.now in
    let e = ap (λ (k : Knowing). check_of (shapes_of (store_of (known k))) call) (sym c.self.view_is) ∙ sym c.check.ensures ∙ c.in_ok-in_bounds.was ∙ ap (λ (k : Kind). Ok k) c.in-Build.is in
    checked_build (store_of (known c.args.self.now)) call c.in-Build.in_bounds c.check_build.result e c.check_build.ensures.checked

pub returns-in-Enters : goal.returns-in-Enters
returns-in-Enters g c =
    let call = c.args.call.now in
    let e = ap (λ (k : Knowing). check_of (shapes_of (store_of (known k))) call) (sym c.self.view_is) ∙ sym c.check.ensures ∙ c.in_ok-in_bounds.was in
    record { checked = checked_plain (store_of (known c.args.self.now)) call c.in_ok-in_bounds.field-0 e c.in-Enters.is; same = λ _. c.args.self.now; made = λ plain. refl }

pub returns-in-Build-clause-made : goal.returns-in-Build-clause-made
returns-in-Build-clause-made g c plain =
    let call = c.args.call.now in
    let e = ap (λ (k : Knowing). check_of (shapes_of (store_of (known k))) call) (sym c.self.view_is) ∙ sym c.check.ensures ∙ c.in_ok-in_bounds.was ∙ ap (λ (k : Kind). Ok k) c.in-Build.is in
    let no : false ≡ true = sym plain ∙ (kind-checked (shapes_of (store_of (known c.args.self.now))) call (Build c.in-Build.in_bounds) e).1 in cc
