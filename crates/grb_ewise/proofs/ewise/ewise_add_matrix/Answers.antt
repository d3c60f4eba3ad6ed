use Rattle.std.proofs.Common.{◌≡◌, ◌∙◌, ap, subst}
use Rattle.std.specs.Prelude.{IfOk}
use Rattle.std.specs.Option.{option_map}
use Rattle.grb_core.specs.Entries.{MatrixEntries, cell_cmp}
use Rattle.grb_core.specs.Contents.{Matrix, edited_matrix}
use Rattle.grb_core.specs.Mask.{is_inside}
use Rattle.grb_core.specs.Operator.{value_of_op}
use Rattle.grb_core.specs.Results.{turned}
use Rattle.grb_core.specs.Written.{pointwise, written}
use Rattle.grb_kernels.specs.Pairing.{paired}
use Rattle.grb_kernels.specs.declared.pairing.Pairing.TheVariants.{Union}
use Rattle.grb_ewise.proofs.ReadInputs.{entries_read, input_read}
use Rattle.grb_ewise.proofs.ewise.ewise_add_matrix.Goals as goal

pub write_masked_matrix-requires-clause-computed : goal.write_masked_matrix-requires-clause-computed
write_masked_matrix-requires-clause-computed c =
    let w = c.args.output.now.matrix in
    let d = c.args.descriptor in
    input_read d.tran w.domain w.nrows w.ncols c.args.a.now c.in_ok-computed.computed (λ m. pointwise cell_cmp (paired Union (value_of_op c.args.op)) m (turned d.tran1 c.args.b.now.matrix.entries))
    c.requires.a c.in_ok-computed.ensures.assembled c.in_ok-computed.ensures.matrix

pub returns-clause-matrix : goal.returns-clause-matrix
returns-clause-matrix c =
    let d = c.args.descriptor in
    let w = c.args.output.now.matrix in
    let mask = option_map (λ m. m.now.matrix.entries) c.args.mask in
    subst (λ (es : MatrixEntries). IfOk c.write_masked_matrix.result (λ made. made.matrix ≡ edited_matrix (λ x. written cell_cmp (is_inside cell_cmp d.structure d.comp mask) d.replace c.args.accum x es) w))
    (ap (λ (m : Matrix). m.entries) c.in_ok-computed.ensures.matrix
    ∙ ap (λ (m : MatrixEntries). pointwise cell_cmp (paired Union (value_of_op c.args.op)) m (turned d.tran1 c.args.b.now.matrix.entries)) (entries_read d.tran c.args.a.now.matrix))
    c.write_masked_matrix.ensures.matrix
