use Rattle.std.proofs.Common.{◌∙◌, ℕ, ap}
use Rattle.std.specs.Prelude.{map}
use Rattle.grb_core.specs.declared.value.Value.{Value}
use Rattle.grb_core.specs.Entries.{MatrixEntries}
use Rattle.grb_codes.proofs.RowsWritten.{copied_front, items_of_cells}
use Rattle.grb_codes.proofs.written.write_matrix.Goals as goal

pub returns-clause-values : goal.returns-clause-values
returns-clause-values g c =
    copied_front (λ (e : (ℕ × ℕ) × Value). g.T.Item.item e.1) c.args.matrix.now.matrix.entries c.of_lists.result.now c.args.values.now c.copy_front.new.array
    (c.of_lists.ensures ∙ items_of_cells g.T.Item.item c.lists-lists.result.now.entries ∙ ap (λ (es : MatrixEntries). map (λ (e : (ℕ × ℕ) × Value). g.T.Item.item e.1) es) c.lists-lists.ensures.entries)
    c.copy_front.ensures
