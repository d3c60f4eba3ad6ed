use Rattle.std.proofs.Common.{sym, subst, ◌*◌}
use Rattle.std.specs.Prelude.{All, IsTrue}
use Rattle.grb_core.specs.Value.{IsValueOf}
use Rattle.grb_ewise.proofs.Made.{cells_are}
use Rattle.std.specs.FinMap.{is_sorted}
use Rattle.grb_core.specs.Entries.{MatrixEntries, cell_cmp}
use Rattle.grb_lists.specs.Cells.{decoded}
use Rattle.grb_core.proofs.Each.{made_true}
use Rattle.grb_core.proofs.Products.{kronecker_sorted}
use Rattle.grb_kronecker.proofs.rows.product_lists.Goals as goal

pub keep-requires-clause-ordered : goal.keep-requires-clause-ordered
keep-requires-clause-ordered g c =
    subst (λ (s : MatrixEntries). IsTrue (is_sorted cell_cmp s)) (sym c.in_ok-fill_rows.ensures.entries)
    (made_true _ (kronecker_sorted g.O.Operator.op c.args.r c.args.c (c.args.dims.0 * c.args.r) (c.args.dims.1 * c.args.c) (decoded c.args.a.now.entries) (decoded c.args.b.now.entries)))

pub returns-clause-of_domain : goal.returns-clause-of_domain
returns-clause-of_domain g c =
    subst (λ (m : MatrixEntries). All (λ e. IsValueOf g.T.Scalar.domain e.1) m) (sym c.keep.ensures.entries)
    (cells_are g.T.Scalar.value g.T.Scalar.domain _ c.fill_rows.new.values.items c.as_slice.result.now c.as_slice.ensures.value c.show.ensures)
