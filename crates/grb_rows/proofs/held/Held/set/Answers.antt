use Rattle.std.proofs.Common.{◌∙◌, Some, length, ap, arith}
use Rattle.std.specs.Ordering.{nat_cmp}
use Rattle.std.specs.FinMap.{put}
use Rattle.grb_lists.specs.Stored.{RowView}
use Rattle.grb_rows.specs.Held.{HeldView}
use Rattle.grb_rows.proofs.Holding.{length-stored_le, entries-changed, held-changed}
use Rattle.grb_rows.proofs.held.Held.set.Goals as goal

pub counted-self-inside-requires-clause-fits : goal.counted-self-inside-requires-clause-fits
counted-self-inside-requires-clause-fits c =
    let i = c.self.inside in
    let held = c.self.invariant in
    let few = length-stored_le i.base i.pending.changes held.laid in
    let same = ap (λ (r : RowView). length r.entries) c.rows.ensures in
    omega (arith, few, same, held.counted, c.len.ensures.bound, c.len-2.ensures.bound)

pub invariant_of-self : goal.invariant_of-self
invariant_of-self c =
    let i = c.self.inside in
    let new = c.store-stood.new in
    let to = c.store-stood.ensures in
    held-changed i.base i.pending i.nvals i.assembled c.self.invariant new.base new.pending to.laid c.args.number (Some c.args.value) to.found to.placed
    c.store-stood.result to.stood c.counted-self-inside.result c.counted-self-inside.ensures

pub returns-clause-entries : goal.returns-clause-entries
returns-clause-entries c =
    let i = c.self.inside in
    let new = c.store-stood.new in
    let to = c.store-stood.ensures in
    entries-changed i.base i.pending i.nvals i.assembled c.self.invariant new.base new.pending to.laid c.args.number (Some c.args.value) to.found
    ∙ ap (λ (v : HeldView). put nat_cmp c.args.number c.args.value v.entries) c.self.view_is
