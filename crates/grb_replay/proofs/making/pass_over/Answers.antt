use Rattle.std.proofs.Common.{sym, ◌∙◌}
use Rattle.grb_replay.proofs.Placed.{left_new}
use Rattle.grb_replay.proofs.making.pass_over.Goals as goal

pub returns-clause-store : goal.returns-clause-store
returns-clause-store c call whole target m v =
    let s = c.args.state.now.store in let o = c.args.object in
    c.add_place.ensures.store ∙ sym (left_new whole s call o (sym target) m v (c.has_place.ensures.lacks c.if-has_place.false))
