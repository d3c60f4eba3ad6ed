use Rattle.std.proofs.Common.{◌∙◌, ap, sym, subst, List, Some}
use Rattle.std.specs.Prelude.{is_some}
use Rattle.std.specs.Ordering.{nat_cmp}
use Rattle.std.specs.FinMap.{find}
use Rattle.grb_rows.specs.Pending.{Change, over}
use Rattle.grb_lists.specs.Stored.{RowView}
use Rattle.grb_rows.specs.Held.{stored, IsLaid}
use Rattle.grb_rows.specs.Layers.{IsPlaced}
use Rattle.grb_rows.proofs.LaidOut.{stands-stored, find-written, laid-written, find-pushed, laid-pushed, stands-over}
use Rattle.grb_lists.proofs.Places.{holds}
use Rattle.grb_rows.proofs.Layered.{StandsAt, stands_at, placed-pushed, placed-written}
use Rattle.grb_rows.proofs.held.store_at.Goals as goal

pub returns-in-Some-clause-laid : goal.returns-in-Some-clause-laid
returns-in-Some-clause-laid c =
    laid-pushed c.args.base.now c.args.pending.now.changes c.requires.laid c.args.number (Some c.args.value) c.push.new.self.changes c.push.ensures.last c.requires.same_domain

pub returns-in-Some-clause-found : goal.returns-in-Some-clause-found
returns-in-Some-clause-found c =
    find-pushed c.args.base.now c.args.pending.now.changes c.requires.laid c.args.number (Some c.args.value) c.push.new.self.changes c.push.ensures.last

pub returns-in-Some-clause-stood : goal.returns-in-Some-clause-stood
returns-in-Some-clause-stood c =
    let row = c.args.base.now in
    stands-over row c.args.pending.now.changes c.args.number c.is_some.result
    (c.is_some.ensures ∙ ap (λ l. is_some (over l (find nat_cmp c.args.number row.entries))) (sym (sym c.latest.ensures ∙ c.in-Some.is)))

pub returns-then-try_write-clause-laid : goal.returns-then-try_write-clause-laid
returns-then-try_write-clause-laid c =
    let cs = c.args.pending.now.changes in
    subst (λ (fs : List Change). IsLaid c.try_write.new.self fs) (sym c.spend.ensures.changes)
    (laid-written c.args.base.now cs c.requires.laid c.args.number c.args.at c.requires.within c.requires.number c.args.value c.try_write.new.self (c.try_write.ensures.written c.if-try_write.true) c.try_write.ensures.domain)

pub returns-then-try_write-clause-found : goal.returns-then-try_write-clause-found
returns-then-try_write-clause-found c =
    let cs = c.args.pending.now.changes in
    λ q. ap (λ (fs : List Change). find nat_cmp q (stored c.try_write.new.self fs)) c.spend.ensures.changes
    ∙ find-written c.args.base.now cs c.requires.laid c.args.number c.args.at c.requires.within c.requires.number c.args.value c.try_write.new.self (c.try_write.ensures.written c.if-try_write.true) (sym c.latest.ensures ∙ c.in-None.is) q

pub returns-then-try_write-clause-stood : goal.returns-then-try_write-clause-stood
returns-then-try_write-clause-stood c =
    stands-stored c.args.base.now c.args.pending.now.changes c.requires.laid c.args.number c.args.at c.requires.within c.requires.number (sym c.latest.ensures ∙ c.in-None.is)

pub returns-else-try_write-clause-found : goal.returns-else-try_write-clause-found
returns-else-try_write-clause-found c =
    let fs = c.push-in-None.new.self.changes in
    λ q. ap (λ (row : RowView). find nat_cmp q (stored row fs)) (c.try_write.ensures.shared c.if-try_write.false)
    ∙ find-pushed c.args.base.now c.args.pending.now.changes c.requires.laid c.args.number (Some c.args.value) fs c.push-in-None.ensures.last q

pub returns-else-try_write-clause-stood : goal.returns-else-try_write-clause-stood
returns-else-try_write-clause-stood c =
    stands-stored c.args.base.now c.args.pending.now.changes c.requires.laid c.args.number c.args.at c.requires.within c.requires.number (sym c.latest.ensures ∙ c.in-None.is)

pub returns-else-try_write-clause-laid : goal.returns-else-try_write-clause-laid
returns-else-try_write-clause-laid c =
    let fs = c.push-in-None.new.self.changes in
    subst (λ (row : RowView). IsLaid row fs) (sym (c.try_write.ensures.shared c.if-try_write.false))
    (laid-pushed c.args.base.now c.args.pending.now.changes c.requires.laid c.args.number (Some c.args.value) fs c.push-in-None.ensures.last c.requires.same_domain)

pub returns-in-Some-clause-placed : goal.returns-in-Some-clause-placed
returns-in-Some-clause-placed c =
    let m = c.args.base.now.entries in
    let k = c.args.number in
    let stands : StandsAt m k (Some c.args.at) = stands_at m k c.args.at (holds c.requires.laid.ordered) c.requires.within c.requires.number in
    placed-pushed m c.args.pending.now.places c.args.pending.now.changes c.requires.placed k (Some c.args.at) stands (Some c.args.value) c.push.new.self.changes c.push.ensures.last c.push.new.self.places c.push.ensures.places

pub returns-then-try_write-clause-placed : goal.returns-then-try_write-clause-placed
returns-then-try_write-clause-placed c =
    let p = c.args.pending.now in
    let new = c.try_write.new.self.entries in
    subst (λ (fs : List Change). IsPlaced new c.spend.new.self.places fs) (sym c.spend.ensures.changes)
    (subst (λ ps. IsPlaced new ps p.changes) (sym c.spend.ensures.places)
    (placed-written c.args.base.now.entries p.places p.changes c.requires.placed c.args.at c.args.value new (c.try_write.ensures.written c.if-try_write.true)))

pub returns-else-try_write-clause-placed : goal.returns-else-try_write-clause-placed
returns-else-try_write-clause-placed c =
    let m = c.args.base.now.entries in
    let k = c.args.number in
    let to = c.push-in-None in
    let stands : StandsAt m k (Some c.args.at) = stands_at m k c.args.at (holds c.requires.laid.ordered) c.requires.within c.requires.number in
    subst (λ (row : RowView). IsPlaced row.entries to.new.self.places to.new.self.changes) (sym (c.try_write.ensures.shared c.if-try_write.false))
    (placed-pushed m c.args.pending.now.places c.args.pending.now.changes c.requires.placed k (Some c.args.at) stands (Some c.args.value) to.new.self.changes to.ensures.last to.new.self.places to.ensures.places)
