use Rattle.std.proofs.Common.{◌∙◌, ℕ}
use Rattle.grb_core.specs.declared.value.Value.{Value}
use Rattle.grb_codes.proofs.RowsWritten.{copied_front, items_of}
use Rattle.grb_codes.proofs.written.write_vector.Goals as goal

pub returns-clause-values : goal.returns-clause-values
returns-clause-values g c =
    copied_front (λ (e : ℕ × Value). g.T.Item.item e.1) c.args.vector.now.vector.entries c.of_vector.result.now c.args.values.now c.copy_front.new.array
    (c.of_vector.ensures ∙ items_of g.T.Item.item c.args.vector.now.vector.entries) c.copy_front.ensures
