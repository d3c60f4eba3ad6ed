use Rattle.std.proofs.Common.{◌≡◌, ◌∙◌, ◌<◌, ap, sym, subst}
use Rattle.std.specs.Prelude.{IfOk}
use Rattle.std.specs.Option.{option_map}
use Rattle.grb_core.specs.Entries.{MatrixEntries, cell_cmp}
use Rattle.grb_core.specs.Contents.{Matrix, edited_matrix}
use Rattle.grb_core.specs.Mask.{is_inside}
use Rattle.grb_core.specs.Written.{written}
use Rattle.grb_sparse.specs.Matrix.{SparseMatrixView}
use Rattle.grb_ewise.proofs.ReadInputs.{domain_read}
use Rattle.grb_kronecker.proofs.WholeProducts.{columns_made, entries_read, fits, matrix_made, product_read, rows_made}
use Rattle.grb_kronecker.proofs.kronecker.kronecker_matrix.Goals as goal

pub product-requires-clause-a_domain : goal.product-requires-clause-a_domain
product-requires-clause-a_domain c =
    ap (λ (x : SparseMatrixView). x.matrix.domain) c.matrix.ensures ∙ ap (λ (m : Matrix). m.domain) c.in_ok-first.ensures.matrix ∙ domain_read c.args.descriptor.tran c.args.a.now.matrix ∙ c.requires.factors.a_domain
    ∙ sym c.requires.operator

pub product-requires-clause-b_domain : goal.product-requires-clause-b_domain
product-requires-clause-b_domain c =
    ap (λ (x : SparseMatrixView). x.matrix.domain) c.matrix-2.ensures ∙ ap (λ (m : Matrix). m.domain) c.in_ok-second.ensures.matrix ∙ domain_read c.args.descriptor.tran1 c.args.b.now.matrix ∙ c.requires.factors.b_domain
    ∙ sym c.requires.operator

pub product-requires-clause-few_rows : goal.product-requires-clause-few_rows
product-requires-clause-few_rows c =
    let d = c.args.descriptor in
    let n = c.args.output.now.matrix.nrows in
    subst (λ n. n < 4294967296)
    (sym (rows_made d.tran d.tran1 c.args.a.now.matrix c.args.b.now.matrix c.matrix.result.now.matrix c.matrix-2.result.now.matrix (ap (λ (x : SparseMatrixView). x.matrix) c.matrix.ensures ∙ c.in_ok-first.ensures.matrix)
    (ap (λ (x : SparseMatrixView). x.matrix) c.matrix-2.ensures ∙ c.in_ok-second.ensures.matrix) n c.requires.factors.rows))
    (fits n c.dims.ensures.whole.nrows)

pub product-requires-clause-few_columns : goal.product-requires-clause-few_columns
product-requires-clause-few_columns c =
    let d = c.args.descriptor in
    let n = c.args.output.now.matrix.ncols in
    subst (λ n. n < 4294967296)
    (sym (columns_made d.tran d.tran1 c.args.a.now.matrix c.args.b.now.matrix c.matrix.result.now.matrix c.matrix-2.result.now.matrix (ap (λ (x : SparseMatrixView). x.matrix) c.matrix.ensures ∙ c.in_ok-first.ensures.matrix)
    (ap (λ (x : SparseMatrixView). x.matrix) c.matrix-2.ensures ∙ c.in_ok-second.ensures.matrix) n c.requires.factors.columns))
    (fits n c.dims.ensures.whole.ncols)

pub write_masked_matrix-requires-clause-computed : goal.write_masked_matrix-requires-clause-computed
write_masked_matrix-requires-clause-computed c =
    let d = c.args.descriptor in
    let w = c.args.output.now.matrix in
    product_read c.args.op d.tran d.tran1 w.domain w.nrows w.ncols c.args.a.now c.args.b.now c.in_ok-computed.computed c.requires.factors c.in_ok-computed.ensures.assembled
    (c.in_ok-computed.ensures.matrix ∙ matrix_made d.tran d.tran1 c.args.a.now.matrix c.args.b.now.matrix c.matrix.result.now.matrix c.matrix-2.result.now.matrix
    (ap (λ (x : SparseMatrixView). x.matrix) c.matrix.ensures ∙ c.in_ok-first.ensures.matrix) (ap (λ (x : SparseMatrixView). x.matrix) c.matrix-2.ensures ∙ c.in_ok-second.ensures.matrix) c.args.op)

pub returns-clause-matrix : goal.returns-clause-matrix
returns-clause-matrix c =
    let d = c.args.descriptor in
    let w = c.args.output.now.matrix in
    let mask = option_map (λ m. m.now.matrix.entries) c.args.mask in
    subst (λ (es : MatrixEntries). IfOk c.write_masked_matrix.result (λ made. made.matrix ≡ edited_matrix (λ x. written cell_cmp (is_inside cell_cmp d.structure d.comp mask) d.replace c.args.accum x es) w))
    (ap (λ (m : Matrix). m.entries)
    (c.in_ok-computed.ensures.matrix ∙ matrix_made d.tran d.tran1 c.args.a.now.matrix c.args.b.now.matrix c.matrix.result.now.matrix c.matrix-2.result.now.matrix
    (ap (λ (x : SparseMatrixView). x.matrix) c.matrix.ensures ∙ c.in_ok-first.ensures.matrix) (ap (λ (x : SparseMatrixView). x.matrix) c.matrix-2.ensures ∙ c.in_ok-second.ensures.matrix) c.args.op)
    ∙ entries_read c.args.op d.tran d.tran1 w.nrows w.ncols c.args.a.now.matrix c.args.b.now.matrix c.requires.factors.rows c.requires.factors.columns) c.write_masked_matrix.ensures.matrix
