use Rattle.std.proofs.Common.{◌<◌, ap, sym, ◌∙◌, length, get_or}
use Rattle.std.specs.Ordering.{nat_cmp}
use Rattle.std.specs.FinMap.{find}
use Rattle.std.proofs.lemmas.List.Elements.{recursion_from_All}
use Rattle.grb_core.specs.Mask.{selects}
use Rattle.grb_core.specs.Results.{row_of}
use Rattle.grb_lists.specs.Cells.{decoded}
use Rattle.grb_sums.specs.Naming.{name_in}
use Rattle.grb_sums.proofs.Renamed.{find-renamed}
use Rattle.grb_mxm.proofs.Names.{few-below, names_of_row, places-rise}
use Rattle.grb_mxm.proofs.MaskedSums.{stands}
use Rattle.grb_mxm.proofs.mask_rows.MaskRows.allow_typed.Goals as goal

pub returns : goal.returns
returns g c =
    let tv = g.U.Scalar.value in
    let self = c.args.self.now in
    let names = self.names.now in
    let row = c.row_at-row.result in
    let places = row.indices.now in
    let below = recursion_from_All (λ r. r < length names) places c.row_at-row.ensures.in_range in
    record {
      allowed = λ p l.
          c.allow_entries.ensures.allowed p
          ∙ ap (selects self.structure) (find-renamed (length names) (name_in names) self.rising tv p places row.values.now l below ∙ ap (find nat_cmp (name_in names p)) c.row_at-row.ensures.entries);
      none = c.allow_entries.ensures.none;
      in_range = c.row_at-row.ensures.in_range;
      rising = places-rise tv places row.values.now row.same row.rising;
      named = names_of_row tv (name_in names) places row.values.now (row_of (get_or self.lists.now.rows c.args.k 0) (decoded self.lists.now.entries)) row.same c.row_at-row.ensures.entries;
      picked = λ p h. stands tv self.structure p places row.values.now (sym (c.allow_entries.ensures.allowed p) ∙ h);
      few = few-below tv (length names) places row.values.now row.same row.rising below;
    }
