use Rattle.std.proofs.Common.{◌-◌, arith}
use Rattle.grb_results.proofs.Frame.{answer_is}
use Rattle.grb_results.proofs.Making.{some_of}
use Rattle.grb_results.proofs.table.Table.last.Goals as goal

pub returns-clause-content : goal.returns-clause-content
returns-clause-content c cs is all =
    some_of _ _ c.kept.result
    (λ v stands. answer_is cs c.args.self.now c.args.object c.last_of-count.result (c.last_of-count.result - 1) v.now is all c.last_of-count.ensures (omega (arith, c.if-count-eq0.false)) stands)
    c.kept.ensures.kept

pub returns-clause-last : goal.returns-clause-last
returns-clause-last c =
    some_of _ _ c.kept.result
    (λ v stands. record { at = c.last_of-count.result - 1; last = omega (arith, c.last_of-count.ensures, c.if-count-eq0.false); kept = stands })
    c.kept.ensures.kept
