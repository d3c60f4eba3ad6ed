use Rattle.std.proofs.Common.{◌∙◌, ap}
use Rattle.grb_core.specs.Operator.{value_of_op}
use Rattle.grb_core.specs.Entries.{cell_cmp}
use Rattle.grb_core.specs.Written.{pointwise}
use Rattle.grb_kernels.specs.Pairing.{paired}
use Rattle.grb_sparse.specs.Matrix.{SparseMatrixView}
use Rattle.grb_ewise.specs.Made.{transposed_matrix}
use Rattle.grb_ewise.proofs.Alike.{matrix_like}
use Rattle.grb_ewise.proofs.ReadInputs.{both_turned, pair_made, paired-none}
use Rattle.grb_ewise.proofs.ewise.pair_read.Goals as goal

pub returns-then-tran-tran1-clause-matrix : goal.returns-then-tran-tran1-clause-matrix
returns-then-tran-tran1-clause-matrix c =
    let a = c.args.a.now.matrix in
    let b = c.args.b.now.matrix in
    let f = paired c.args.pairing (value_of_op c.args.op) in
    c.in_ok-turned.ensures.matrix
    ∙ ap transposed_matrix (matrix_like c.args.a.now c.in_ok-of_both.of_both (pointwise cell_cmp f a.entries b.entries) c.in_ok-of_both.ensures)
    ∙ both_turned c.transposed_exchanges_rows_and_columns.ensures.stores f (paired-none c.args.pairing (value_of_op c.args.op)) c.args.tran c.args.tran1 a b c.if-tran-tran1.true

pub returns-clause-matrix : goal.returns-clause-matrix
returns-clause-matrix c =
    pair_made (paired c.args.pairing (value_of_op c.args.op)) c.args.tran c.args.tran1 c.args.a.now.matrix c.args.b.now.matrix c.matrix.result.now c.matrix-2.result.now c.in_ok-made.made
    (ap (λ (x : SparseMatrixView). x.matrix) c.matrix.ensures ∙ c.in_ok-first.ensures.matrix) (ap (λ (x : SparseMatrixView). x.matrix) c.matrix-2.ensures ∙ c.in_ok-second.ensures.matrix)
    c.in_ok-made.ensures
