use Rattle.grb_market.proofs.PlainLemmas.{integer_line, pattern_line}
use Rattle.grb_market.proofs.entry.next_entry.Goals as goal

pub returns-in-Some-clause-some : goal.returns-in-Some-clause-some
returns-in-Some-clause-some c = integer_line c.args.head c.args.size c.args.text.now _ _ _ _ _ c.in-Uint64.is c.in-Some.ensures c.entry_from.ensures.is

pub returns-in-Some-two_plain-clause-some : goal.returns-in-Some-two_plain-clause-some
returns-in-Some-two_plain-clause-some c = pattern_line c.args.head c.args.size c.args.text.now _ _ _ _ c.in-Bool.is c.in-Some-two_plain.ensures c.entry_from-in-Bool.ensures.is
