use Rattle.std.proofs.Common.{not, length, nat_eq, rules, tests}
use Rattle.std.proofs.lemmas.Iterator.Consumers.{YieldsList-from_filter, YieldsList-at}
use Rattle.std.proofs.lemmas.Iterator.Splits.{YieldsList-from_slice_split}
use Rattle.grb_words.proofs.Collected.{viewed_from_collect}
use Rattle.grb_words.proofs.line.words.Goals as goal

pub returns : goal.returns
returns c =
    viewed_from_collect (λ words. words.items) _ c.collect.ensures.ran (
    YieldsList-from_filter _ (λ word. not (nat_eq (length word) 0)) (
    YieldsList-at c.filter.ensures.source (YieldsList-from_slice_split _ (λ b. nat_eq b 32) c.args.line.now c.split.ensures.rest c.split.ensures.done c.split.ensures.closure (λ x b q k. search (rules, tests)))
    ) c.filter.ensures.closure (λ x b q k. search (rules, tests))
    )
