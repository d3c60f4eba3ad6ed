use Rattle.std.proofs.Common.{◌∙◌, ◌<◌, ap, subst, sym}
use Rattle.std.specs.Prelude.{All, IfSome}
use Rattle.std.specs.Option.{option_map}
use Rattle.grb_core.specs.Operator.{op_domain}
use Rattle.grb_lists.specs.Cells.{decoded}
use Rattle.grb_sparse.specs.Matrix.{SparseMatrixView}
use Rattle.grb_mxm.proofs.ReadFactors.{first_fits, product_read, second_fits, second_ncols}
use Rattle.grb_mxm.proofs.mxm_product.product_read.Goals as goal

pub product-requires-clause-a : goal.product-requires-clause-a
product-requires-clause-a c =
    first_fits c.args.tran c.args.tran1 c.args.a.now c.args.b.now c.matrix.result.now c.matrix-2.result.now
    (ap (λ (x : SparseMatrixView). x.matrix) c.matrix.ensures ∙ c.in_ok-first.ensures.matrix) (ap (λ (x : SparseMatrixView). x.matrix) c.matrix-2.ensures ∙ c.in_ok-second.ensures.matrix)
    (op_domain c.args.semiring.op) (ap (λ (x : SparseMatrixView). x.assembled) c.matrix.ensures ∙ c.in_ok-first.ensures.assembled) c.requires.a

pub product-requires-clause-b : goal.product-requires-clause-b
product-requires-clause-b c =
    second_fits c.args.tran c.args.tran1 c.args.a.now c.args.b.now c.matrix.result.now c.matrix-2.result.now
    (ap (λ (x : SparseMatrixView). x.matrix) c.matrix.ensures ∙ c.in_ok-first.ensures.matrix) (ap (λ (x : SparseMatrixView). x.matrix) c.matrix-2.ensures ∙ c.in_ok-second.ensures.matrix)
    (op_domain c.args.semiring.op) (ap (λ (x : SparseMatrixView). x.assembled) c.matrix-2.ensures ∙ c.in_ok-second.ensures.assembled) c.requires.b

pub product-requires-clause-mask_in_range : goal.product-requires-clause-mask_in_range
product-requires-clause-mask_in_range c =
    subst (λ n. IfSome c.args.mask (λ m. All (λ e. e.0.1 < n) (decoded m.now.entries)))
    (sym (second_ncols c.args.tran c.args.tran1 c.args.a.now c.args.b.now c.matrix.result.now c.matrix-2.result.now
    (ap (λ (x : SparseMatrixView). x.matrix) c.matrix.ensures ∙ c.in_ok-first.ensures.matrix) (ap (λ (x : SparseMatrixView). x.matrix) c.matrix-2.ensures ∙ c.in_ok-second.ensures.matrix)))
    c.requires.mask_in_range

pub returns-clause-matrix : goal.returns-clause-matrix
returns-clause-matrix c =
    c.in_ok-made.ensures.matrix
    ∙ product_read c.args.tran c.args.tran1 c.args.a.now c.args.b.now c.matrix.result.now c.matrix-2.result.now
    (ap (λ (x : SparseMatrixView). x.matrix) c.matrix.ensures ∙ c.in_ok-first.ensures.matrix) (ap (λ (x : SparseMatrixView). x.matrix) c.matrix-2.ensures ∙ c.in_ok-second.ensures.matrix)
    c.args.semiring c.args.structure (option_map (λ m. decoded m.now.entries) c.args.mask)
