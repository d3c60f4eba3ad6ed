use Rattle.std.proofs.Common.{◌≡◌, ap, ◌∙◌}
use Rattle.grb_reader.proofs.Prelude.{room_of, Knowing, status_at}
use Rattle.grb_call.specs.Status.{with_status}
use Rattle.grb_reader.proofs.reader.Reader.keep.Goals as goal

pub returns-clause-statuses : goal.returns-clause-statuses
returns-clause-statuses c =
    let room : c.self.inside.statuses.room ≡ room_of c.args.self.now.order = c.self.invariant.room_is ∙ ap (λ (p : Knowing). room_of p.order) c.self.view_is in
    c.keep.ensures.kept ∙ (λ i. with_status (room i) (c.target_of.ensures i) (c.info_of.ensures i) (status_at (c.self.view_is i).statuses))
