use Rattle.std.proofs.Common.{length, ap, ◌∙◌}
use Rattle.grb_market.proofs.Prelude.{before}
use Rattle.grb_market.proofs.FrontLemmas.{three_more, not_empty}
use Rattle.grb_market.proofs.numbers.three_numbers.Goals as goal

pub returns-then-not-is_empty-clause-none : goal.returns-then-not-is_empty-clause-none
returns-then-not-is_empty-clause-none c =
    let long = not_empty c.is_empty.result (length c.in_ok-third.rest.now) c.is_empty.ensures c.if-not-is_empty.true in
    three_more c.args.line.now c.in_ok-third.rest.now c.in_ok-first.first c.in_ok-first.second c.in_ok-third.third
    (c.in_ok-first.ensures.some ∙ ap (λ o. before c.in_ok-first.first (before c.in_ok-first.second o)) c.in_ok-third.ensures.some) long
