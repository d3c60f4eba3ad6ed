use Rattle.std.proofs.Common.{sym, ap, ◌∙◌}
use Rattle.grb_pass.proofs.Prelude.{Knowing, room_of}
use Rattle.grb_pass.proofs.Evaluating.{state_learns}
use Rattle.grb_pass.proofs.Looking.{found_now, looks_from}
use Rattle.grb_pass.proofs.shared.Shared.look.Goals as goal

pub invariant_of-pass : goal.invariant_of-pass
invariant_of-pass g c =
    state_learns c.pass.inside.reader c.learn.new.reader c.pass.inside.evaluated c.pass.inside.row.next c.learn.ensures.learns c.learn.ensures.made c.pass.invariant

pub returns-clause-looks : goal.returns-clause-looks
returns-clause-looks g c =
    looks_from (room_of c.args.self.now.order) c.args.pass.now c.pass.inside.reader c.learn.new.reader (c.pass.view_is ∙ c.begin.ensures.same) c.learn.ensures.learns c.learn.ensures.counts c.learn.ensures.looks

pub returns-clause-now : goal.returns-clause-now
returns-clause-now g c =
    found_now (room_of c.args.self.now.order) c.args.pass.now c.pass.inside.reader c.learn.new.reader c.learn.result (c.pass.view_is ∙ c.begin.ensures.same) c.learn.ensures.finds
