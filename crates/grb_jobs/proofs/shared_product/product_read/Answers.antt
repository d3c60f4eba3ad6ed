use Rattle.std.proofs.Common.{◌≡◌, ◌∙◌, ℕ, ap, subst, sym}
use Rattle.std.specs.Prelude.{IfSome}
use Rattle.std.specs.Option.{option_map}
use Rattle.grb_core.specs.Operator.{op_domain}
use Rattle.grb_sparse.specs.Matrix.{SparseMatrixView}
use Rattle.grb_mxm.proofs.ReadFactors.{first_fits, product_read, second_fits, second_ncols}
use Rattle.grb_jobs.proofs.shared_product.product_read.Goals as goal

pub product_by-requires : goal.product_by-requires
product_by-requires c =
    let first = ap (λ (x : SparseMatrixView). x.matrix) c.matrix.ensures ∙ c.in_ok-first.ensures.matrix in
    let second = ap (λ (x : SparseMatrixView). x.matrix) c.matrix-2.ensures ∙ c.in_ok-second.ensures.matrix in
    let a = c.args.a.now in
    let b = c.args.b.now in
    record {
      first_fits = first_fits c.args.tran c.args.tran1 a b c.matrix.result.now c.matrix-2.result.now first second (op_domain c.args.semiring.op) (ap (λ (x : SparseMatrixView). x.assembled) c.matrix.ensures ∙ c.in_ok-first.ensures.assembled) c.requires.a;
      second_fits = second_fits c.args.tran c.args.tran1 a b c.matrix.result.now c.matrix-2.result.now first second (op_domain c.args.semiring.op) (ap (λ (x : SparseMatrixView). x.assembled) c.matrix-2.ensures ∙ c.in_ok-second.ensures.assembled) c.requires.b;
      mask_assembled = c.requires.mask_assembled;
      mask_columns = subst (λ (n : ℕ). IfSome (option_map (λ m. m.now) c.args.mask) (λ m. m.matrix.ncols ≡ n)) (sym (second_ncols c.args.tran c.args.tran1 a b c.matrix.result.now c.matrix-2.result.now first second)) c.requires.mask_columns;
    }

pub returns-clause-matrix : goal.returns-clause-matrix
returns-clause-matrix c =
    c.in_ok-made.ensures.matrix
    ∙ product_read c.args.tran c.args.tran1 c.args.a.now c.args.b.now c.matrix.result.now c.matrix-2.result.now
    (ap (λ (x : SparseMatrixView). x.matrix) c.matrix.ensures ∙ c.in_ok-first.ensures.matrix) (ap (λ (x : SparseMatrixView). x.matrix) c.matrix-2.ensures ∙ c.in_ok-second.ensures.matrix)
    c.args.semiring c.args.structure (option_map (λ m. m.now.matrix.entries) c.args.mask)
