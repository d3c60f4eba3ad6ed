use Rattle.std.proofs.Common.{not, length, nat_eq, map, ap, ◌++◌, ◌∙◌, rules, tests}
use Rattle.std.proofs.lemmas.Iterator.Consumers.{YieldsList-from_filter, YieldsList-at}
use Rattle.std.proofs.lemmas.Iterator.Splits.{YieldsList-from_slice_split}
use Rattle.grb_words.proofs.Collected.{viewed_from_extend}
use Rattle.grb_words.proofs.line.put_words.Goals as goal

pub returns : goal.returns
returns c =
    viewed_from_extend c.extend.result c.extend.ensures.ran (
    YieldsList-from_filter _ (λ word. not (nat_eq (length word) 0)) (
    YieldsList-at c.filter.ensures.source (YieldsList-from_slice_split _ (λ b. nat_eq b 32) c.args.line.now c.split.ensures.rest c.split.ensures.done c.split.ensures.closure (λ x b q k. search (rules, tests)))
    ) c.filter.ensures.closure (λ x b q k. search (rules, tests))
    ) (λ xs are made. ap (map (λ word. word.now)) (made.0 ∙ ap (λ l. l ++ xs) c.clear.ensures.items) ∙ are)
