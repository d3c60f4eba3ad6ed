use Rattle.std.proofs.Common.{◌∙◌, Bool, sym}
use Rattle.std.proofs.lemmas.List.{length-map}
use Rattle.grb_core.specs.declared.value.Value.TheVariants as value
use Rattle.grb_lists.proofs.FlatCells.{length-codes}
use Rattle.grb_lists.proofs.flat.FlatRows.from_bools.Goals as goal

pub invariant_of-result : goal.invariant_of-result
invariant_of-result c = (
  length-map c.args.bools.items (λ (x : Bool). value.Bool x) ∙ c.requires.same ∙ sym (length-codes c.args.rows.items c.args.starts.items c.args.columns.items c.requires.flat),
  c.requires.ordered,
  c.requires.flat,
)
