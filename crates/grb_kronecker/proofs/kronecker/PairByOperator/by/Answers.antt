use Rattle.std.proofs.Common.{◌≡◌, ◌∙◌, ℕ, ◌*◌, ap, sym, subst}
use Rattle.grb_core.specs.Contents.{IsDimension}
use Rattle.grb_lists.specs.Cells.{decoded}
use Rattle.grb_sparse.specs.Matrix.{SparseMatrixView}
use Rattle.grb_kronecker.proofs.WholeProducts.{product_whole, product_dimension, same_product}
use Rattle.grb_kronecker.proofs.kronecker.PairByOperator.by.Goals as goal

pub from_lists-made-requires : goal.from_lists-made-requires
from_lists-made-requires g c =
    let a = c.args.self.a.now.matrix in
    let b = c.args.self.b.now.matrix in
    let da = c.dims-m.ensures.dims in
    let db = c.dims-r.ensures.dims in
    let m : c.dims-m.result.0 ≡ a.nrows = ap (λ (d : ℕ × ℕ). d.0) da in
    let n : c.dims-m.result.1 ≡ a.ncols = ap (λ (d : ℕ × ℕ). d.1) da in
    let r : c.dims-r.result.0 ≡ b.nrows = ap (λ (d : ℕ × ℕ). d.0) db in
    let k : c.dims-r.result.1 ≡ b.ncols = ap (λ (d : ℕ × ℕ). d.1) db in
    let rows : IsDimension (c.dims-m.result.0 * c.dims-r.result.0) =
    subst (λ (x : ℕ). IsDimension x) (sym (ap (λ s. s * c.dims-r.result.0) m ∙ ap (λ s. a.nrows * s) r))
    (product_dimension a.nrows b.nrows c.dims-m.ensures.whole.nrows c.dims-r.ensures.whole.nrows c.args.self.few_rows) in
    let columns : IsDimension (c.dims-m.result.1 * c.dims-r.result.1) =
    subst (λ (x : ℕ). IsDimension x) (sym (ap (λ s. s * c.dims-r.result.1) n ∙ ap (λ s. a.ncols * s) k))
    (product_dimension a.ncols b.ncols c.dims-m.ensures.whole.ncols c.dims-r.ensures.whole.ncols c.args.self.few_columns) in
    record {
      whole = rw c.in_ok-lists.ensures.domain
          (product_whole g.O.Operator.op g.T.Scalar.domain c.dims-m.result.0 c.dims-m.result.1 c.dims-r.result.0 c.dims-r.result.1
          (decoded c.lists.result.now.entries) (decoded c.lists-2.result.now.entries) (decoded c.in_ok-lists.lists.entries) rows columns
          c.in_ok-lists.ensures.entries c.in_ok-lists.ensures.of_domain);
    }

pub returns : goal.returns
returns g c =
    let a = c.args.self.a.now.matrix in
    let b = c.args.self.b.now.matrix in
    let da = c.dims-m.ensures.dims in
    let db = c.dims-r.ensures.dims in
    let made = c.from_lists-made.ensures in (
      ap (λ (v : SparseMatrixView). v.matrix) made
          ∙ same_product g.O.Operator.op c.in_ok-lists.lists.domain c.dims-m.result.0 c.dims-m.result.1 c.dims-r.result.0 c.dims-r.result.1
          (decoded c.lists.result.now.entries) (decoded c.lists-2.result.now.entries) (decoded c.in_ok-lists.lists.entries) a b
          (c.in_ok-lists.ensures.domain ∙ sym c.args.self.a_domain) (ap (λ (d : ℕ × ℕ). d.0) da) (ap (λ (d : ℕ × ℕ). d.1) da) (ap (λ (d : ℕ × ℕ). d.0) db) (ap (λ (d : ℕ × ℕ). d.1) db)
          c.lists.ensures.entries c.lists-2.ensures.entries c.in_ok-lists.ensures.entries,
      ap (λ (v : SparseMatrixView). v.assembled) made,
    )
