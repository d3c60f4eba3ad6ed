use Rattle.std.proofs.Common.{sym, subst}
use Rattle.std.specs.Prelude.{All, IsTrue}
use Rattle.std.specs.FinMap.{is_sorted}
use Rattle.grb_core.specs.Value.{IsValueOf}
use Rattle.grb_core.specs.Entries.{MatrixEntries, cell_cmp}
use Rattle.grb_kernels.specs.Typed.{entries_of}
use Rattle.grb_ewise.proofs.Made.{cells_are}
use Rattle.grb_core.proofs.Each.{holds, made_true}
use Rattle.grb_maps.proofs.Placing.{sorted-placed}
use Rattle.grb_maps.proofs.diagonal.diagonal_lists.Goals as goal

pub keep-requires-clause-ordered : goal.keep-requires-clause-ordered
keep-requires-clause-ordered g c =
    subst (λ (m : MatrixEntries). IsTrue (is_sorted cell_cmp m)) (sym c.fill_diagonal.ensures.entries)
    (made_true _ (sorted-placed c.args.down c.args.up (entries_of g.T.Scalar.value c.args.entries.now.indices.now c.args.entries.now.values.now) (holds _ c.args.entries.now.rising)))

pub returns-clause-of_domain : goal.returns-clause-of_domain
returns-clause-of_domain g c =
    subst (λ (m : MatrixEntries). All (λ e. IsValueOf g.T.Scalar.domain e.1) m) (sym c.keep.ensures.entries)
    (cells_are g.T.Scalar.value g.T.Scalar.domain _ c.fill_diagonal.new.values.items c.as_slice.result.now c.as_slice.ensures.value c.show.ensures)
