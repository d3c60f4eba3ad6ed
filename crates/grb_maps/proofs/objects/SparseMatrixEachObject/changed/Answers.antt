use Rattle.std.proofs.Common.{◌∙◌, ℕ, ap, sym, subst}
use Rattle.std.specs.Prelude.{IsTrue, Some}
use Rattle.std.specs.FinMap.{is_sorted}
use Rattle.grb_core.specs.Entries.{MatrixEntries, cell_cmp}
use Rattle.grb_lists.specs.Cells.{decoded}
use Rattle.grb_sparse.specs.Matrix.{SparseMatrixView}
use Rattle.grb_core.proofs.Each.{map-each}
use Rattle.grb_maps.specs.Changed.{with_values}
use Rattle.grb_maps.proofs.Wholes.{matrix_whole}
use Rattle.grb_maps.proofs.objects.SparseMatrixEachObject.changed.Goals as goal

pub change_rows-requires-clause-ordered : goal.change_rows-requires-clause-ordered
change_rows-requires-clause-ordered g c =
    subst (λ (m : MatrixEntries). IsTrue (is_sorted cell_cmp m)) (sym c.lists.ensures.entries) c.lists.ensures.whole.ordered

pub from_lists-requires : goal.from_lists-requires
from_lists-requires g c =
    let a = c.args.a.now.matrix in
    let made = c.in_ok-lists.lists in
    let gives = g.C.Change.gives c.args.change.now in
    record {
      whole = rw c.in_ok-lists.ensures.domain
          (matrix_whole (λ k v. Some (gives v)) g.T.Scalar.domain c.dims-nrows.result.0 c.dims-nrows.result.1 a (decoded made.entries) c.dims-nrows.ensures.whole c.dims-nrows.ensures.dims
          (c.in_ok-lists.ensures.entries ∙ ap (with_values gives) c.lists.ensures.entries ∙ map-each gives a.entries)
          c.in_ok-lists.ensures.of_domain);
    }

pub returns : goal.returns
returns g c =
    let gives = g.C.Change.gives c.args.change.now in
    let made = c.from_lists.ensures in
    record {
      entries = ap (λ (m : SparseMatrixView). m.matrix.entries) made ∙ c.in_ok-lists.ensures.entries ∙ ap (with_values gives) c.lists.ensures.entries;
      domain = ap (λ (m : SparseMatrixView). m.matrix.domain) made ∙ c.in_ok-lists.ensures.domain ∙ sym c.requires.domain;
      rows = ap (λ (m : SparseMatrixView). m.matrix.nrows) made ∙ ap (λ (d : ℕ × ℕ). d.0) c.dims-nrows.ensures.dims;
      columns = ap (λ (m : SparseMatrixView). m.matrix.ncols) made ∙ ap (λ (d : ℕ × ℕ). d.1) c.dims-nrows.ensures.dims;
      assembled = ap (λ (m : SparseMatrixView). m.assembled) made;
    }
