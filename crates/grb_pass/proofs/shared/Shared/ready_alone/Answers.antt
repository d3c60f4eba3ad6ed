use Rattle.std.proofs.Common.{sym, ap, ◌∙◌}
use Rattle.grb_pass.proofs.Prelude.{Knowing}
use Rattle.grb_pass.proofs.Evaluating.{state_learns}
use Rattle.grb_pass.proofs.shared.Shared.ready_alone.Goals as goal

pub invariant_of-pass : goal.invariant_of-pass
invariant_of-pass g c =
    state_learns c.pass.inside.reader c.learn.new.reader c.pass.inside.evaluated c.pass.inside.row.next c.learn.ensures.learns c.learn.ensures.made c.pass.invariant

pub invariant_of-pass-2 : goal.invariant_of-pass-2
invariant_of-pass-2 g c =
    state_learns c.pass.inside.reader c.learn.new.reader c.pass.inside.evaluated c.pass.inside.row.next c.learn.ensures.learns c.learn.ensures.made c.pass.invariant
