use Rattle.std.proofs.Common.{◌≡◌, ◌∙◌, ap}
use Rattle.grb_core.specs.Entries.{MatrixEntries, cell_cmp}
use Rattle.grb_core.specs.Written.{pointwise}
use Rattle.grb_lists.specs.Cells.{decoded}
use Rattle.grb_ewise.proofs.Made.{matrix_made}
use Rattle.grb_ewise.proofs.objects.SparseMatrixSparseObject.merged.Goals as goal

pub from_lists-requires : goal.from_lists-requires
from_lists-requires g c =
    let a = c.args.a.now.matrix in
    let b = c.args.b.now.matrix in
    let f = g.R.Rule.gives c.args.rule.now in
    let made = c.in_ok-lists.lists in
    let is : decoded made.entries ≡ pointwise cell_cmp f a.entries b.entries =
    c.in_ok-lists.ensures.entries
    ∙ ap (λ (m : MatrixEntries). pointwise cell_cmp f m (decoded c.lend_rows-2.result.lists.now.entries)) c.lend_rows.ensures.entries
    ∙ ap (pointwise cell_cmp f a.entries) c.lend_rows-2.ensures.entries in
    record {
      whole = rw c.in_ok-lists.ensures.domain
          (matrix_made f g.T.Scalar.domain c.dims-nrows.result.0 c.dims-nrows.result.1 a b (decoded made.entries) c.lend_rows.ensures.whole c.lend_rows-2.ensures.whole c.requires.alike.rows c.requires.alike.columns c.dims-nrows.ensures.dims is
          c.in_ok-lists.ensures.ordered c.in_ok-lists.ensures.of_domain);
    }
