use Rattle.std.proofs.Common.{◌≡◌, ◌∙◌, ap, subst, sym}
use Rattle.std.specs.Prelude.{IfOk}
use Rattle.std.specs.Option.{option_map}
use Rattle.grb_core.specs.declared.domain.Domain.{Domain}
use Rattle.grb_core.specs.Entries.{MatrixEntries, cell_cmp}
use Rattle.grb_core.specs.Contents.{Matrix, edited_matrix}
use Rattle.grb_core.specs.Mask.{is_inside}
use Rattle.grb_core.specs.Written.{written}
use Rattle.grb_sparse.specs.Matrix.{SparseMatrixView}
use Rattle.grb_ewise.specs.Made.{turned_matrix}
use Rattle.grb_ewise.proofs.ReadInputs.{domain_read, entries_read, input_read}
use Rattle.grb_core.specs.Functions.{IsFunctionOf, turns_input}
use Rattle.grb_core.specs.Maps.{applied}
use Rattle.grb_maps.proofs.apply.apply_matrix.Goals as goal

pub change_matrix-requires-clause-function : goal.change_matrix-requires-clause-function
change_matrix-requires-clause-function c =
    subst (λ (d : Domain). IsFunctionOf d c.args.f)
    (sym (ap (λ (x : SparseMatrixView). x.matrix.domain) c.matrix.ensures ∙ ap (λ (m : Matrix). m.domain) c.in_ok-input.ensures.matrix ∙ domain_read c.turns_input.result c.args.a.now.matrix ∙ c.requires.a.domain))
    c.requires.function

pub write_masked_matrix-requires-clause-computed : goal.write_masked_matrix-requires-clause-computed
write_masked_matrix-requires-clause-computed c =
    let w = c.args.output.now.matrix in
    let d = c.args.descriptor in
    let f = applied c.args.f in
    input_read (turns_input c.args.f d.tran d.tran1) w.domain w.nrows w.ncols c.args.a.now c.in_ok-computed.computed f c.requires.a c.in_ok-computed.ensures.assembled
    (c.in_ok-computed.ensures.matrix ∙ ap (edited_matrix f) (ap (λ (x : SparseMatrixView). x.matrix) c.matrix.ensures ∙ c.in_ok-input.ensures.matrix)
    ∙ ap (λ t. edited_matrix f (turned_matrix t c.args.a.now.matrix)) c.turns_input.ensures)

pub returns-clause-matrix : goal.returns-clause-matrix
returns-clause-matrix c =
    let d = c.args.descriptor in
    let w = c.args.output.now.matrix in
    let f = applied c.args.f in
    let mask = option_map (λ m. m.now.matrix.entries) c.args.mask in
    subst (λ (es : MatrixEntries). IfOk c.write_masked_matrix.result (λ made. made.matrix ≡ edited_matrix (λ x. written cell_cmp (is_inside cell_cmp d.structure d.comp mask) d.replace c.args.accum x es) w))
    (ap (λ (m : Matrix). m.entries) c.in_ok-computed.ensures.matrix
    ∙ ap (λ (m : Matrix). f m.entries) (ap (λ (x : SparseMatrixView). x.matrix) c.matrix.ensures ∙ c.in_ok-input.ensures.matrix ∙ ap (λ t. turned_matrix t c.args.a.now.matrix) c.turns_input.ensures)
    ∙ ap f (entries_read (turns_input c.args.f d.tran d.tran1) c.args.a.now.matrix)) c.write_masked_matrix.ensures.matrix
