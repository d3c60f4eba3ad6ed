use Rattle.std.proofs.Common.{◌-◌, sym, ◌∙◌, arith}
use Rattle.grb_market.proofs.Prelude.{cells_of}
use Rattle.grb_market.proofs.MarketLemmas.{gathered_next}
use Rattle.grb_market.proofs.reader.gather.Goals as goal

pub loop-rest-preserved : goal.loop-rest-preserved
loop-rest-preserved c =
    let now = c.loop-rest in
    let here = c.in-Some.ensures.some in
    record {
      front = gathered_next c.args.head c.args.size c.args.behind.now (cells_of now.tuples.items) (cells_of c.append_next.new.tuples.items) now.left (now.left - 1) now.rest.now here.line c.in-Some.after.now
          (c.in-Ok.cell, c.in-Ok.value) now.invariant.front here.first here.shorter (omega (arith, c.if-left-eq0.false)) (sym here.is ∙ c.in-Ok.is) c.in_ok-rising-in-Ok.ensures.appended;
      rising = c.in_ok-rising-in-Ok.ensures.rising;
    }
