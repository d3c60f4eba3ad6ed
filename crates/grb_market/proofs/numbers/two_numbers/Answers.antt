use Rattle.std.proofs.Common.{length}
use Rattle.grb_market.proofs.FrontLemmas.{two_more, not_empty}
use Rattle.grb_market.proofs.numbers.two_numbers.Goals as goal

pub returns-then-not-is_empty-clause-none : goal.returns-then-not-is_empty-clause-none
returns-then-not-is_empty-clause-none c =
    let long = not_empty c.is_empty.result (length c.in_ok-first.rest.now) c.is_empty.ensures c.if-not-is_empty.true in
    two_more c.args.line.now c.in_ok-first.rest.now c.in_ok-first.first c.in_ok-first.second c.in_ok-first.ensures.some long
