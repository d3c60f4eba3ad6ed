use Rattle.std.proofs.Common.{◌≡◌, sym, ap, ◌∙◌}
use Rattle.std.specs.Prelude.{Ok, Err}
use Rattle.grb_call.specs.Shapes.{ObjectShapes}
use Rattle.grb_call.specs.Refused.{check_of, is_in_bounds}
use Rattle.grb_call.specs.Store.{Store, shapes_of}
use Rattle.grb_call.specs.declared.checking.Kind.{Kind}
use Rattle.grb_call.specs.declared.checking.Kind.TheVariants.{Build, Enters, Reads}
use Rattle.grb_call.specs.After.{refused, refused_build}
use Rattle.grb_call.proofs.Checked.{refused-err, refused-ok, refused-none}
use Rattle.grb_call.proofs.KindsChecked.{kind-checked, no_build-checked}
use Rattle.grb_objects.specs.Stored.{stored}
use Rattle.grb_states.specs.State.{RoomyStore}
use Rattle.grb_states.proofs.state.State.refused.Goals as goal

pub refused_build-requires : goal.refused_build-requires
refused_build-requires c =
    let s : Store = stored c.self.inside.objects.matrices.items c.self.inside.objects.vectors.items in let call = c.args.call.now in let b = c.in-Ok-Build.in_bounds in
    let e : check_of (shapes_of s) call ≡ Ok (Build b) =
    ap (λ (o : ObjectShapes). check_of o call) (sym c.self.invariant.shapes_are) ∙ sym c.check.ensures ∙ c.in-Ok-Build.is ∙ ap (λ (k : Kind). Ok k) c.in-Ok-Build.field-0-is in
    (kind-checked (shapes_of s) call (Build b) e).2 ∙ ap (λ (x : RoomyStore). is_in_bounds (shapes_of x.store) call) c.self.view_is

pub returns-in-Err : goal.returns-in-Err
returns-in-Err c =
    let s : Store = stored c.self.inside.objects.matrices.items c.self.inside.objects.vectors.items in let call = c.args.call.now in let r = c.in-Err.refusal in
    let e : check_of (shapes_of s) call ≡ Err r = ap (λ (o : ObjectShapes). check_of o call) (sym c.self.invariant.shapes_are) ∙ sym c.check.ensures ∙ c.in-Err.is in
    sym (refused-err s call r e) ∙ ap (λ (x : RoomyStore). refused x.store call) c.self.view_is

pub returns-in-Ok-Build : goal.returns-in-Ok-Build
returns-in-Ok-Build c =
    let s : Store = stored c.self.inside.objects.matrices.items c.self.inside.objects.vectors.items in let call = c.args.call.now in let k = c.in-Ok-Build.field-0 in
    let e : check_of (shapes_of s) call ≡ Ok k = ap (λ (o : ObjectShapes). check_of o call) (sym c.self.invariant.shapes_are) ∙ sym c.check.ensures ∙ c.in-Ok-Build.is in
    c.refused_build.ensures ∙ sym (ap (λ (x : RoomyStore). refused_build x.store call) c.self.view_is) ∙ sym (refused-ok s call k e) ∙ ap (λ (x : RoomyStore). refused x.store call) c.self.view_is

pub returns-in-Ok-Enters : goal.returns-in-Ok-Enters
returns-in-Ok-Enters c =
    let s : Store = stored c.self.inside.objects.matrices.items c.self.inside.objects.vectors.items in let call = c.args.call.now in
    let e : check_of (shapes_of s) call ≡ Ok Enters =
    ap (λ (o : ObjectShapes). check_of o call) (sym c.self.invariant.shapes_are) ∙ sym c.check.ensures ∙ c.in-Ok-Enters.is ∙ ap (λ (k : Kind). Ok k) c.in-Ok-Enters.field-0-is in
    sym (refused-none s call Enters e (no_build-checked (shapes_of s) call e)) ∙ ap (λ (x : RoomyStore). refused x.store call) c.self.view_is

pub returns-in-Ok-Reads : goal.returns-in-Ok-Reads
returns-in-Ok-Reads c =
    let s : Store = stored c.self.inside.objects.matrices.items c.self.inside.objects.vectors.items in let call = c.args.call.now in
    let e : check_of (shapes_of s) call ≡ Ok Reads =
    ap (λ (o : ObjectShapes). check_of o call) (sym c.self.invariant.shapes_are) ∙ sym c.check.ensures ∙ c.in-Ok-Reads.is ∙ ap (λ (k : Kind). Ok k) c.in-Ok-Reads.field-0-is in
    sym (refused-none s call Reads e (kind-checked (shapes_of s) call Reads e).1) ∙ ap (λ (x : RoomyStore). refused x.store call) c.self.view_is
