use Rattle.std.proofs.Common.{◌∙◌, sym, ap, subst}
use Rattle.std.proofs.lemmas.Result.{IfOk-weaker}
use Rattle.std.specs.Prelude.{IfSome}
use Rattle.std.specs.List.{All}
use Rattle.grb_rows.specs.Pending.{changed, IsChangeOf}
use Rattle.grb_lists.specs.Stored.{RowView}
use Rattle.grb_rows.specs.Held.{HeldView}
use Rattle.grb_lists.proofs.Places.{holds}
use Rattle.grb_rows.proofs.Latest.{all_found}
use Rattle.grb_rows.proofs.LaidOut.{last_at-sorted, same_changes}
use Rattle.grb_rows.proofs.held.Held.merged_rows.Goals as goal

pub merged-requires-clause-inside : goal.merged-requires-clause-inside
merged-requires-clause-inside c =
    subst (λ (r : RowView). All (IsChangeOf r.domain) c.in_ok-changes.changes.items) (sym c.rows.ensures)
    (all_found c.self.inside.base.domain c.in_ok-changes.changes.items (holds c.in_ok-changes.ensures.sorted)
    (λ q. subst (λ l. IfSome l (λ d. IsChangeOf c.self.inside.base.domain (q, d))) (sym (c.in_ok-changes.ensures.found q)) (c.self.invariant.laid.inside q)))

pub returns-clause-entries : goal.returns-clause-entries
returns-clause-entries c =
    let i = c.self.inside in
    let m = i.base.entries in
    let last = c.in_ok-changes.changes.items in
    let sorted = holds c.in_ok-changes.ensures.sorted in
    IfOk-weaker c.merged.result _ _ (λ new h. h ∙ ap (λ (r : RowView). changed r.entries last) c.rows.ensures ∙ same_changes m last i.pending.changes (holds c.self.invariant.laid.ordered) (λ q. last_at-sorted q last sorted ∙ c.in_ok-changes.ensures.found q)
    ∙ ap (λ (v : HeldView). v.entries) c.self.view_is) c.merged.ensures.entries
