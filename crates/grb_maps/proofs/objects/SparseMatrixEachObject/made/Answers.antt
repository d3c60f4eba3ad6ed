use Rattle.std.proofs.Common.{◌≡◌, ◌∙◌, ℕ, ap, sym, subst}
use Rattle.grb_sparse.specs.Matrix.{SparseMatrixView}
use Rattle.std.specs.Prelude.{IsTrue}
use Rattle.std.specs.FinMap.{is_sorted}
use Rattle.grb_core.specs.Entries.{MatrixEntries, cell_cmp}
use Rattle.grb_lists.specs.Cells.{decoded}
use Rattle.grb_maps.proofs.Pushing.{all_made}
use Rattle.grb_maps.proofs.Wholes.{matrix_whole}
use Rattle.grb_maps.proofs.objects.SparseMatrixEachObject.made.Goals as goal

pub make_rows-requires-clause-ordered : goal.make_rows-requires-clause-ordered
make_rows-requires-clause-ordered g c =
    subst (λ (m : MatrixEntries). IsTrue (is_sorted cell_cmp m)) (sym c.lists.ensures.entries) c.lists.ensures.whole.ordered

pub from_lists-requires : goal.from_lists-requires
from_lists-requires g c =
    let a = c.args.a.now.matrix in
    let made = c.in_ok-lists.lists in
    let gives = g.E.Each.row_gives c.args.each.now in
    let is : decoded made.entries ≡ all_made gives a.entries = c.in_ok-lists.ensures.entries ∙ ap (all_made gives) c.lists.ensures.entries in
    record {
      whole = rw c.in_ok-lists.ensures.domain
          (matrix_whole (λ k v. gives k.0 k.1 v) g.T.Scalar.domain c.dims-nrows.result.0 c.dims-nrows.result.1 a (decoded made.entries) c.dims-nrows.ensures.whole c.dims-nrows.ensures.dims is
          c.in_ok-lists.ensures.of_domain);
    }

pub returns : goal.returns
returns g c =
    let gives = g.E.Each.row_gives c.args.each.now in
    let made = c.from_lists.ensures in
    record {
      entries = ap (λ (m : SparseMatrixView). m.matrix.entries) made ∙ c.in_ok-lists.ensures.entries ∙ ap (all_made gives) c.lists.ensures.entries;
      domain = ap (λ (m : SparseMatrixView). m.matrix.domain) made ∙ c.in_ok-lists.ensures.domain ∙ sym c.requires.domain;
      rows = ap (λ (m : SparseMatrixView). m.matrix.nrows) made ∙ ap (λ (d : ℕ × ℕ). d.0) c.dims-nrows.ensures.dims;
      columns = ap (λ (m : SparseMatrixView). m.matrix.ncols) made ∙ ap (λ (d : ℕ × ℕ). d.1) c.dims-nrows.ensures.dims;
      assembled = ap (λ (m : SparseMatrixView). m.assembled) made;
    }
