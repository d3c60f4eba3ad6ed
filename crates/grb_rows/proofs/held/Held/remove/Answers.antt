use Rattle.std.proofs.Common.{◌∙◌, None, length, ap, arith}
use Rattle.std.specs.Ordering.{nat_cmp}
use Rattle.grb_core.specs.Entries.{without_entry}
use Rattle.grb_lists.specs.Stored.{RowView}
use Rattle.grb_rows.specs.Held.{HeldView}
use Rattle.grb_rows.proofs.Holding.{length-stored_le, entries-changed, held-changed}
use Rattle.grb_rows.proofs.held.Held.remove.Goals as goal

pub counted-self-inside-requires-clause-fits : goal.counted-self-inside-requires-clause-fits
counted-self-inside-requires-clause-fits c =
    let i = c.self.inside in
    let held = c.self.invariant in
    let few = length-stored_le i.base i.pending.changes held.laid in
    let same = ap (λ (r : RowView). length r.entries) c.rows.ensures in
    omega (arith, few, same, held.counted, c.len.ensures.bound, c.len-2.ensures.bound)

pub invariant_of-self : goal.invariant_of-self
invariant_of-self c =
    let i = c.self.inside in
    let new = c.erase-stood.new in
    let to = c.erase-stood.ensures in
    held-changed i.base i.pending i.nvals i.assembled c.self.invariant i.base new.pending to.laid c.args.number None to.found to.placed
    c.erase-stood.result to.stood c.counted-self-inside.result c.counted-self-inside.ensures

pub returns-clause-entries : goal.returns-clause-entries
returns-clause-entries c =
    let i = c.self.inside in
    let new = c.erase-stood.new in
    let to = c.erase-stood.ensures in
    entries-changed i.base i.pending i.nvals i.assembled c.self.invariant i.base new.pending to.laid c.args.number None to.found
    ∙ ap (λ (v : HeldView). without_entry nat_cmp c.args.number v.entries) c.self.view_is
