use Rattle.std.proofs.Common.{inl, inr, ◌≡◌, ◌∙◌, ap, sym, subst, List, None, IsTrue}
use Rattle.std.specs.Prelude.{is_some}
use Rattle.std.proofs.lemmas.Bool.{cases_Bool}
use Rattle.std.specs.Ordering.{nat_cmp}
use Rattle.std.specs.FinMap.{find, is_sorted}
use Rattle.grb_rows.specs.Pending.{Change}
use Rattle.grb_lists.specs.Stored.{RowView}
use Rattle.grb_rows.specs.Held.{stored, IsLaid}
use Rattle.grb_rows.specs.Layers.{IsPlaced}
use Rattle.grb_rows.proofs.LaidOut.{find-pushed, laid-pushed, find-same, stands-over, nothing_there}
use Rattle.grb_lists.proofs.Places.{holds}
use Rattle.grb_rows.proofs.Layered.{StandsAt, stands_found, some_found, placed-pushed}
use Rattle.grb_rows.proofs.held.erase.Goals as goal

pub returns-clause-laid : goal.returns-clause-laid
returns-clause-laid c =
    let row = c.args.base.now in
    let cs = c.args.pending.now.changes in
    elim (cases_Bool c.remove.result) [
      | inl stands ↦ laid-pushed row cs c.requires.laid c.args.number None c.remove.new.self.changes (c.remove.ensures.removed stands) tt
      | inr none ↦ subst (λ (fs : List Change). IsLaid row fs) (sym (c.remove.ensures.absent none).0) c.requires.laid
    ]

pub returns-clause-stood : goal.returns-clause-stood
returns-clause-stood c =
    let row = c.args.base.now in
    let k = c.args.number in
    let of = c.place_of-place.ensures in
    let stands : is_some (find nat_cmp k row.entries) ≡ is_some c.place_of-place.result = ap (λ (r : RowView). is_some (find nat_cmp k r.entries)) (sym c.rows.ensures) ∙ some_found c.rows.result.now.entries k c.place_of-place.result of.stands of.absent in
    stands-over row c.args.pending.now.changes k c.remove.result (c.remove.ensures.stood (find nat_cmp k row.entries) stands)

pub returns-clause-found : goal.returns-clause-found
returns-clause-found c =
    let row = c.args.base.now in
    let cs = c.args.pending.now.changes in
    let left = returns-clause-stood c in
    elim (cases_Bool c.remove.result) [
      | inl stands ↦ find-pushed row cs c.requires.laid c.args.number None c.remove.new.self.changes (c.remove.ensures.removed stands)
      | inr unset ↦
          let none : find nat_cmp c.args.number (stored row cs) ≡ None = nothing_there (find nat_cmp c.args.number (stored row cs)) (sym left ∙ unset) in
          λ q. ap (λ (fs : List Change). find nat_cmp q (stored row fs)) (c.remove.ensures.absent unset).0
          ∙ find-same row cs c.requires.laid c.args.number none q
    ]

pub returns-clause-absent : goal.returns-clause-absent
returns-clause-absent c = λ none. (c.remove.ensures.absent (returns-clause-stood c ∙ ap is_some none)).1

pub returns-clause-placed : goal.returns-clause-placed
returns-clause-placed c =
    let row = c.args.base.now in
    let k = c.args.number in
    let p = c.args.pending.now in
    let q = c.remove.new.self in
    let place = c.place_of-place.result in
    let of = c.place_of-place.ensures in
    let ordered = subst (λ (r : RowView). IsTrue (is_sorted nat_cmp r.entries)) (sym c.rows.ensures) c.requires.laid.ordered in
    let stands : StandsAt row.entries k place = subst (λ (r : RowView). StandsAt r.entries k place) c.rows.ensures (stands_found c.rows.result.now.entries k place (holds ordered) of.found of.absent) in
    elim (cases_Bool c.remove.result) [
      | inl gone ↦ placed-pushed row.entries p.places p.changes c.requires.placed k place stands None q.changes (c.remove.ensures.removed gone) q.places (c.remove.ensures.places gone)
      | inr none ↦
          let kept = c.remove.ensures.absent none in
          subst (λ ps. IsPlaced row.entries ps q.changes) (sym kept.2) (subst (λ (fs : List Change). IsPlaced row.entries p.places fs) (sym kept.0) c.requires.placed)
    ]
