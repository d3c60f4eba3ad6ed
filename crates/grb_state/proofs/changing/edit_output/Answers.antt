use Rattle.std.proofs.Common.{◌≡◌, sym, ap, ◌∙◌}
use Rattle.std.specs.Prelude.{Some}
use Rattle.grb_call.specs.declared.ids.Object.{Object}
use Rattle.grb_call.specs.declared.ids.Object.TheVariants as object
use Rattle.grb_call.specs.Output.{output_of}
use Rattle.grb_objects.specs.Stored.{stored}
use Rattle.grb_objects.proofs.Accepted.{fits_matrix, fits_vector, matrix_edited, vector_edited}
use Rattle.grb_objects.proofs.ByNumber.{on_ok}
use Rattle.grb_state.proofs.changing.edit_output.Goals as goal

pub edit-requires : goal.edit-requires
edit-requires c =
    let is : output_of c.args.call.now ≡ Some (object.Matrix c.in-Some-Matrix.a) = sym c.output.ensures ∙ c.in-Some-Matrix.is ∙ ap (λ (o : Object). Some o) c.in-Some-Matrix.field-0-is in
    record { fits = fits_matrix (stored c.args.objects.now.matrices.items c.args.objects.now.vectors.items) c.in-Some-Matrix.a c.args.call.now is c.requires.edits c.requires.accepted }

pub edit-requires-in-Some-Vector : goal.edit-requires-in-Some-Vector
edit-requires-in-Some-Vector c =
    let is : output_of c.args.call.now ≡ Some (object.Vector c.in-Some-Vector.v) = sym c.output.ensures ∙ c.in-Some-Vector.is ∙ ap (λ (o : Object). Some o) c.in-Some-Vector.field-0-is in
    record { fits = fits_vector (stored c.args.objects.now.matrices.items c.args.objects.now.vectors.items) c.in-Some-Vector.v c.args.call.now is c.requires.edits c.requires.accepted }

pub returns-in-Some-Matrix-clause-ok : goal.returns-in-Some-Matrix-clause-ok
returns-in-Some-Matrix-clause-ok c =
    let is : output_of c.args.call.now ≡ Some (object.Matrix c.in-Some-Matrix.a) = sym c.output.ensures ∙ c.in-Some-Matrix.is ∙ ap (λ (o : Object). Some o) c.in-Some-Matrix.field-0-is in
    on_ok _ _ c.edit.result (matrix_edited (stored c.args.objects.now.matrices.items c.args.objects.now.vectors.items) c.in-Some-Matrix.a c.args.call.now _ is c.requires.edits) c.edit.ensures.ok

pub returns-in-Some-Vector-clause-ok : goal.returns-in-Some-Vector-clause-ok
returns-in-Some-Vector-clause-ok c =
    let is : output_of c.args.call.now ≡ Some (object.Vector c.in-Some-Vector.v) = sym c.output.ensures ∙ c.in-Some-Vector.is ∙ ap (λ (o : Object). Some o) c.in-Some-Vector.field-0-is in
    on_ok _ _ c.edit-in-Some-Vector.result (vector_edited (stored c.args.objects.now.matrices.items c.args.objects.now.vectors.items) c.in-Some-Vector.v c.args.call.now _ is c.requires.edits) c.edit-in-Some-Vector.ensures.ok
