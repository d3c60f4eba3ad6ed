use Rattle.std.proofs.Common.{nat_eq, nat_lt, arith, get_or, length}
use Rattle.std.proofs.lemmas.Bool.Decides.{nat_tests}
use Rattle.grb_push.proofs.WantedPlaces.{stands}
use Rattle.grb_push.proofs.wanted.stands_at.Goals as goal

pub returns-then-at-names : goal.returns-then-at-names
returns-then-at-names c =
    let names = c.args.names.now in
    let at = c.args.at in
    let q = c.args.number in
    stands names at q (nat_eq (get_or names at 0) q) c.requires.rising c.requires.below c.requires.above
    (λ t. (c.if-at-names.true, grind (arith, nat_tests, t))) (λ t l e. grind (arith, nat_tests, t, e))

pub returns-else-at-names : goal.returns-else-at-names
returns-else-at-names c =
    let names = c.args.names.now in
    let at = c.args.at in
    let past = c.if-at-names.false in
    stands names at c.args.number (nat_lt at (length names)) c.requires.rising c.requires.below c.requires.above
    (λ t. grind (arith, nat_tests, t, past)) (λ t l e. omega (arith, l, past))
