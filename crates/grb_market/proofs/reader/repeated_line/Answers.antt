use Rattle.std.proofs.Common.{rules, ◌≡◌, ◌+◌, ◌∙◌, false, Some, ap, sym, []}
use Rattle.grb_market.proofs.Prelude.{cells_of, fault_at, Repeated, count_apart, are_apart}
use Rattle.grb_market.proofs.ApartLemmas.{apart_fewer}
use Rattle.grb_market.proofs.MarketLemmas.{same_gathered, repeated_fault}
use Rattle.grb_market.proofs.reader.repeated_line.Goals as goal

pub overflow_add-result : goal.overflow_add-result
overflow_add-result c =
    let es = cells_of c.in_ok-tuples.tuples.items in
    let was = c.requires.twice in
    let same = same_gathered c.args.head c.args.size c.args.behind.now was.0 es was.1 _ was.2 c.in_ok-tuples.ensures.all in
    let apart : are_apart es ≡ false = ap are_apart (sym same) ∙ was.3 in
    let fewer = apart_fewer es apart in
    let short = c.in_ok-tuples.ensures.all.front.short in
    let numbered = c.requires.numbered in
    let count = c.in_ok-count.ensures ∙ ap (λ l. count_apart [] (cells_of l)) c.deref.ensures.value in
    search rules

pub returns : goal.returns
returns c =
    let es = cells_of c.in_ok-tuples.tuples.items in
    let was = c.requires.twice in
    let same = same_gathered c.args.head c.args.size c.args.behind.now was.0 es was.1 _ was.2 c.in_ok-tuples.ensures.all in
    let apart : are_apart es ≡ false = ap are_apart (sym same) ∙ was.3 in
    repeated_fault c.args.text.now c.args.head c.args.size c.args.first c.args.behind.now c.requires.stands es _ c.in_ok-tuples.ensures.all apart
    ∙ ap (λ n. Some (fault_at (c.args.first + n) Repeated)) (sym (c.in_ok-count.ensures ∙ ap (λ l. count_apart [] (cells_of l)) c.deref.ensures.value))
