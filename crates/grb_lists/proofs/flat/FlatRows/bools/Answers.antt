use Rattle.std.proofs.Common.{◌≡◌, ◌∙◌, ap, sym, subst}
use Rattle.std.specs.Prelude.{map}
use Rattle.grb_core.specs.declared.value.Value.TheVariants as value
use Rattle.grb_core.specs.Entries.{values_of}
use Rattle.grb_lists.specs.Values.{values_list}
use Rattle.grb_lists.specs.Stored.{RowView}
use Rattle.grb_lists.specs.Cells.{codes_of}
use Rattle.grb_lists.proofs.FlatLists.{values-paired}
use Rattle.grb_lists.proofs.flat.FlatRows.bools.Goals as goal

pub returns : goal.returns
returns c =
    subst (λ (r : RowView). map (λ b. value.Bool b) c.deref.result.now ≡ values_of r.entries) c.self.view_is
    (ap (map (λ b. value.Bool b)) c.deref.ensures.value ∙ ap values_list (sym c.in-Bool.is) ∙ sym (values-paired (codes_of c.self.inside.rows.items c.self.inside.starts.items c.self.inside.columns.items) (values_list c.self.inside.values) c.self.invariant.0))
