use Rattle.std.proofs.Common.{◌∙◌, ap, sym}
use Rattle.std.specs.Option.{option_copied}
use Rattle.grb_rows.specs.Pending.{last_at, PendingView}
use Rattle.grb_rows.proofs.Latest.{last_at-lookup}
use Rattle.grb_rows.proofs.pending.Pending.latest.Goals as goal

pub returns-in-Some : goal.returns-in-Some
returns-in-Some c =
    sym (ap option_copied c.in-Some.is)
    ∙ c.get.ensures.value
    ∙ sym (last_at-lookup c.args.index c.self.inside.latest.entries c.self.invariant.0)
    ∙ ap (λ (v : PendingView). last_at c.args.index v.changes) c.self.view_is

pub returns-in-None : goal.returns-in-None
returns-in-None c =
    sym (ap option_copied c.in-None.is)
    ∙ c.get.ensures.value
    ∙ sym (last_at-lookup c.args.index c.self.inside.latest.entries c.self.invariant.0)
    ∙ ap (λ (v : PendingView). last_at c.args.index v.changes) c.self.view_is
