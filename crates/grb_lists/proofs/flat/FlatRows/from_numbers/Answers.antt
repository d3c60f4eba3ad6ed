use Rattle.std.proofs.Common.{◌∙◌, ℕ, sym}
use Rattle.std.proofs.lemmas.List.{length-map}
use Rattle.grb_core.specs.declared.value.Value.TheVariants as value
use Rattle.grb_lists.proofs.FlatCells.{length-codes}
use Rattle.grb_lists.proofs.flat.FlatRows.from_numbers.Goals as goal

pub invariant_of-result : goal.invariant_of-result
invariant_of-result c = (
  length-map c.args.numbers.items (λ (x : ℕ). value.Uint64 x) ∙ c.requires.same ∙ sym (length-codes c.args.rows.items c.args.starts.items c.args.columns.items c.requires.flat),
  c.requires.ordered,
  c.requires.flat,
)
