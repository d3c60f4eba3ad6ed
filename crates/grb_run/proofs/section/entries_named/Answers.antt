use Rattle.std.proofs.Common.{Err, subst, sym}
use Rattle.grb_core.specs.Entries.{MatrixEntries, VectorEntries}
use Rattle.grb_script.specs.declared.names.Sort.{Sort}
use Rattle.grb_script.specs.declared.names.Sort.TheVariants as sort
use Rattle.grb_script.specs.declared.statement.Statement.TheVariants as statement
use Rattle.grb_replies.specs.declared.step_answer.StepAnswer.TheVariants as told
use Rattle.grb_run.proofs.Prelude.{IsStatementTold, Stage}
use Rattle.grb_run.proofs.Entries.{matrix_told, matrix_untold, vector_told, vector_untold}
use Rattle.grb_run.proofs.section.entries_named.Goals as goal

pub returns-in-Ok-clause-told : goal.returns-in-Ok-clause-told
returns-in-Ok-clause-told c =
    let at : Stage = record { objects = c.args.objects.now; pass = c.args.pass.now } in
    let after : Stage = record { objects = c.args.objects.now; pass = c.snapshot_matrix.new.pass } in
    subst (λ (s : Sort). IsStatementTold c.args.context.now at (statement.Tuples c.args.name s) (told.Matrix c.of.result) after) (sym c.in-Matrix.is)
    (subst (λ (entries : MatrixEntries). IsStatementTold c.args.context.now at (statement.Tuples c.args.name sort.Matrix) (told.Matrix entries) after) (sym c.of.ensures)
    (matrix_told c.args.context.now c.args.objects.now c.args.pass.now c.snapshot_matrix.new.pass c.args.name c.in-Ok.matrix c.named.result c.in-Ok.matrix.value c.named.ensures c.in-Ok.ensures.snapshot c.in-Ok.ensures.matrix))

pub returns-in-Err-clause-told : goal.returns-in-Err-clause-told
returns-in-Err-clause-told c =
    let at : Stage = record { objects = c.args.objects.now; pass = c.args.pass.now } in
    let after : Stage = record { objects = c.args.objects.now; pass = c.snapshot_matrix.new.pass } in
    subst (λ (s : Sort). IsStatementTold c.args.context.now at (statement.Tuples c.args.name s) (told.Call (Err c.in-Err.refusal)) after) (sym c.in-Matrix.is)
    (matrix_untold c.args.context.now c.args.objects.now c.args.pass.now c.snapshot_matrix.new.pass c.args.name c.in-Err.refusal c.named.result c.named.ensures c.in-Err.ensures.snapshot)

pub returns-in-Ok-snapshot_vector-clause-told : goal.returns-in-Ok-snapshot_vector-clause-told
returns-in-Ok-snapshot_vector-clause-told c =
    let at : Stage = record { objects = c.args.objects.now; pass = c.args.pass.now } in
    let after : Stage = record { objects = c.args.objects.now; pass = c.snapshot_vector.new.pass } in
    subst (λ (s : Sort). IsStatementTold c.args.context.now at (statement.Tuples c.args.name s) (told.Vector c.of-in-Ok-snapshot_vector.result) after) (sym c.in-Vector.is)
    (subst (λ (entries : VectorEntries). IsStatementTold c.args.context.now at (statement.Tuples c.args.name sort.Vector) (told.Vector entries) after) (sym c.of-in-Ok-snapshot_vector.ensures)
    (vector_told c.args.context.now c.args.objects.now c.args.pass.now c.snapshot_vector.new.pass c.args.name c.in-Ok-snapshot_vector.vector c.named-in-Vector.result c.in-Ok-snapshot_vector.vector.value c.named-in-Vector.ensures c.in-Ok-snapshot_vector.ensures.snapshot c.in-Ok-snapshot_vector.ensures.vector))

pub returns-in-Err-snapshot_vector-clause-told : goal.returns-in-Err-snapshot_vector-clause-told
returns-in-Err-snapshot_vector-clause-told c =
    let at : Stage = record { objects = c.args.objects.now; pass = c.args.pass.now } in
    let after : Stage = record { objects = c.args.objects.now; pass = c.snapshot_vector.new.pass } in
    subst (λ (s : Sort). IsStatementTold c.args.context.now at (statement.Tuples c.args.name s) (told.Call (Err c.in-Err-snapshot_vector.refusal)) after) (sym c.in-Vector.is)
    (vector_untold c.args.context.now c.args.objects.now c.args.pass.now c.snapshot_vector.new.pass c.args.name c.in-Err-snapshot_vector.refusal c.named-in-Vector.result c.named-in-Vector.ensures c.in-Err-snapshot_vector.ensures.snapshot)
