use Rattle.std.proofs.Common.{sym, subst, List, nat_eq}
use Rattle.std.specs.Prelude.{All}
use Rattle.std.specs.List.{IsDistinct}
use Rattle.std.specs.Map.{keys_of}
use Rattle.grb_rows.specs.Pending.{Change, IsChangeOf}
use Rattle.grb_lists.specs.Stored.{RowView}
use Rattle.grb_rows.specs.Layers.{IsChanged}
use Rattle.grb_rows.proofs.Layered.{apart-distinct, all_last}
use Rattle.grb_rows.proofs.held.Held.layers.Goals as goal

pub invariant_of-result : goal.invariant_of-result
invariant_of-result c =
    let i = c.self.inside in
    let held = c.self.invariant in
    let cs = i.pending.changes in
    let distinct : IsDistinct nat_eq (keys_of cs) = c.changes.ensures.distinct in
    let changed : IsChanged i.base.entries i.pending.places cs = record { ordered = held.laid.ordered; apart = apart-distinct cs distinct; placed = held.placed } in
    record {
      changed =
          subst (λ (fs : List Change). IsChanged c.rows.result.now.entries c.places.result.now fs) (sym c.changes.ensures.changes)
          (subst (λ ps. IsChanged c.rows.result.now.entries ps cs) (sym c.places.ensures)
          (subst (λ (r : RowView). IsChanged r.entries i.pending.places cs) (sym c.rows.ensures) changed));
      inside =
          subst (λ (fs : List Change). All (IsChangeOf c.rows.result.now.domain) fs) (sym c.changes.ensures.changes)
          (subst (λ (r : RowView). All (IsChangeOf r.domain) cs) (sym c.rows.ensures) (all_last i.base.domain cs distinct held.laid.inside));
    }
