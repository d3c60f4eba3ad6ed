use Rattle.std.proofs.Common.{sym, ◌∙◌, arith}
use Rattle.grb_market.proofs.ApartLemmas.{count_step, there_if_found, map_step}
use Rattle.grb_market.proofs.gathered.count_apart.Goals as goal

pub returns-then-branch : goal.returns-then-branch
returns-then-branch c =
    let now = c.loop-i in
    let there = there_if_found c.args.tuples.now now.i-index _ now.earlier.entries _ now.invariant.entries c.in_ok-store.ensures.stood in
    let none = count_step c.args.tuples.now now.i-index _ _ c.loop-i-test.true (there ∙ c.if-branch.true) in
    let all = now.invariant.count in
    omega (arith, none, all)

pub loop-i-preserved : goal.loop-i-preserved
loop-i-preserved c =
    let now = c.loop-i in
    let there = there_if_found c.args.tuples.now now.i-index _ now.earlier.entries _ now.invariant.entries c.in_ok-store.ensures.stood in
    let step = count_step c.args.tuples.now now.i-index _ _ c.loop-i-test.true (there ∙ c.if-branch.false) in
    let all = now.invariant.count in
    let at = now.invariant.at in
    record {
      entries = map_step c.args.tuples.now now.i-index _ now.earlier.entries c.store.new.entries.entries c.loop-i-test.true now.invariant.entries (sym c.in_ok-store.ensures.stood ∙ c.if-branch.false) c.in_ok-store.ensures.stored;
      count = omega (arith, step, all);
      at = omega (arith, at);
    }
