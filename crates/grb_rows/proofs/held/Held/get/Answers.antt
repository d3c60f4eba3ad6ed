use Rattle.std.proofs.Common.{◌∙◌, ap, sym}
use Rattle.std.specs.Ordering.{nat_cmp}
use Rattle.std.specs.FinMap.{find}
use Rattle.grb_rows.specs.Pending.{over}
use Rattle.grb_lists.specs.Stored.{RowView}
use Rattle.grb_rows.specs.Held.{HeldView}
use Rattle.grb_rows.proofs.Changes.{find-changed}
use Rattle.grb_rows.proofs.held.Held.get.Goals as goal

pub returns-in-Some : goal.returns-in-Some
returns-in-Some c =
    let i = c.self.inside in
    sym (find-changed c.args.number i.pending.changes i.base.entries
    ∙ ap (λ l. over l (find nat_cmp c.args.number i.base.entries)) (sym c.latest.ensures ∙ c.in-Some.is))
    ∙ ap (λ (v : HeldView). find nat_cmp c.args.number v.entries) c.self.view_is

pub returns-in-None : goal.returns-in-None
returns-in-None c =
    let i = c.self.inside in
    c.get.ensures
    ∙ ap (λ (r : RowView). find nat_cmp c.args.number r.entries) c.rows.ensures
    ∙ sym (find-changed c.args.number i.pending.changes i.base.entries
    ∙ ap (λ l. over l (find nat_cmp c.args.number i.base.entries)) (sym c.latest.ensures ∙ c.in-None.is))
    ∙ ap (λ (v : HeldView). find nat_cmp c.args.number v.entries) c.self.view_is
