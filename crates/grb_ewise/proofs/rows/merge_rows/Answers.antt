use Rattle.std.proofs.Common.{sym, subst}
use Rattle.std.specs.Prelude.{All}
use Rattle.grb_core.specs.Value.{IsValueOf}
use Rattle.grb_core.specs.Entries.{MatrixEntries}
use Rattle.grb_ewise.proofs.Made.{cells_are}
use Rattle.grb_ewise.proofs.rows.merge_rows.Goals as goal

pub returns-clause-of_domain : goal.returns-clause-of_domain
returns-clause-of_domain g c =
    subst (λ (m : MatrixEntries). All (λ e. IsValueOf g.T.Scalar.domain e.1) m) (sym c.keep.ensures.entries)
    (cells_are g.T.Scalar.value g.T.Scalar.domain _ c.fill_rows.new.values.items c.as_slice.result.now c.as_slice.ensures.value c.show.ensures)
