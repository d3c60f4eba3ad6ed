use Rattle.std.proofs.Common.{◌∙◌, ap, sym, Some, None}
use Rattle.std.specs.Prelude.{is_some}
use Rattle.std.specs.Ordering.{nat_cmp}
use Rattle.std.specs.FinMap.{find}
use Rattle.grb_lists.specs.Stored.{RowView}
use Rattle.grb_rows.proofs.LaidOut.{find-pushed, laid-pushed, stands-over}
use Rattle.grb_lists.proofs.Places.{holds}
use Rattle.grb_rows.proofs.Layered.{StandsAt, stands_nowhere, placed-pushed}
use Rattle.grb_rows.proofs.held.store.Goals as goal

pub returns-in-None-clause-laid : goal.returns-in-None-clause-laid
returns-in-None-clause-laid c =
    laid-pushed c.args.base.now c.args.pending.now.changes c.requires.laid c.args.number (Some c.args.value) c.push.new.self.changes c.push.ensures.last c.requires.same_domain

pub returns-in-None-clause-found : goal.returns-in-None-clause-found
returns-in-None-clause-found c =
    find-pushed c.args.base.now c.args.pending.now.changes c.requires.laid c.args.number (Some c.args.value) c.push.new.self.changes c.push.ensures.last

pub returns-in-None-clause-stood : goal.returns-in-None-clause-stood
returns-in-None-clause-stood c =
    let row = c.args.base.now in
    stands-over row c.args.pending.now.changes c.args.number c.leaves_value-stood.result
    (c.leaves_value-stood.ensures (find nat_cmp c.args.number row.entries) (ap (λ (r : RowView). is_some (find nat_cmp c.args.number r.entries)) (sym c.rows.ensures) ∙ ap is_some c.in-None.ensures.absent))

pub returns-in-None-clause-placed : goal.returns-in-None-clause-placed
returns-in-None-clause-placed c =
    let m = c.args.base.now.entries in
    let k = c.args.number in
    let nowhere : StandsAt m k None = stands_nowhere m k (holds c.requires.laid.ordered) (ap (λ (r : RowView). find nat_cmp k r.entries) (sym c.rows.ensures) ∙ c.in-None.ensures.absent) in
    placed-pushed m c.args.pending.now.places c.args.pending.now.changes c.requires.placed k None nowhere (Some c.args.value) c.push.new.self.changes c.push.ensures.last c.push.new.self.places c.push.ensures.places
