use Rattle.std.proofs.Common.{◌≡◌, ◌+◌, ◌∙◌, true, length, sym, subst, arith, []}
use Rattle.grb_market.proofs.Prelude.{cell_cmp, cells_of, map_from, lines_of, are_apart, IsAtEnd, StandsBehind, IsRead}
use Rattle.grb_market.proofs.ApartLemmas.{length-cells_of}
use Rattle.grb_market.proofs.MarketLemmas.{stands_behind, wrong_fault, is_read}
use Rattle.grb_market.proofs.reader.read_entries.Goals as goal

pub returns-in-Some-clause-fault : goal.returns-in-Some-clause-fault
returns-in-Some-clause-fault c =
    let es = cells_of c.in_ok-tuples.tuples.items in
    let all = c.in_ok-tuples.ensures.all in
    let apart : are_apart es ≡ true = sym c.in_ok-put_in_order.ensures.apart ∙ c.if-not-branch.false in
    let stands = stands_behind c.args.text.now c.args.head c.args.size c.args.first c.args.behind.now c.requires.stands es all.left all.rest all.front apart in
    let long = length-cells_of c.in_ok-tuples.tuples.items in
    let number : c.args.first + length es ≡ c.args.first + c.len-count.result = omega (arith, long, c.len-count.ensures, c.in_ok-tuples.tuples.ok.0) in
    let here = subst (λ n. StandsBehind c.args.text.now c.args.head c.args.size n all.left all.rest (map_from cell_cmp es)) number stands in
    rw c.fault-in-Some.ensures (wrong_fault c.args.text.now c.args.head c.args.size (c.args.first + c.len-count.result) all.left all.rest (map_from cell_cmp es) here c.in-Some.kind (all.is_wrong ∙ c.in-Some.is))

pub returns-in-None-clause-read : goal.returns-in-None-clause-read
returns-in-None-clause-read c =
    let es = cells_of c.in_ok-tuples.tuples.items in
    let all = c.in_ok-tuples.ensures.all in
    let apart : are_apart es ≡ true = sym c.in_ok-put_in_order.ensures.apart ∙ c.if-not-branch.false in
    let stands = stands_behind c.args.text.now c.args.head c.args.size c.args.first c.args.behind.now c.requires.stands es all.left all.rest all.front apart in
    let end : lines_of all.rest ≡ [] = subst (IsAtEnd (lines_of all.rest)) c.in-None.is all.ends in
    subst (IsRead c.args.text.now c.args.head c.args.size) (sym (c.in_ok-put_in_order.ensures.ordered c.if-not-branch.false))
    (is_read c.args.text.now c.args.head c.args.size (c.args.first + length es) all.left all.rest (map_from cell_cmp es) stands end (all.is_wrong ∙ c.in-None.is))
