use Rattle.std.proofs.Common.{sym, ◌∙◌}
use Rattle.grb_replay.specs.Followed.{part_after}
use Rattle.grb_replay.proofs.making.make_one.Goals as goal

pub returns-clause-store : goal.returns-clause-store
returns-clause-store c whole target m v =
    c.pass_over.ensures.store c.args.call.now whole (sym c.in-Some.is ∙ target) m v ∙ (λ i. part_after (sym c.if-is_chosen.false i) (sym c.in-Some.is i) c.args.call.now c.args.state.now.store)
