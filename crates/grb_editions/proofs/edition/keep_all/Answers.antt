use Rattle.std.proofs.Common.{◌<◌, refl, sym, subst, ◌∙◌, arith}
use Rattle.grb_results.specs.declared.exchange.Kept.{Kept}
use Rattle.grb_results.specs.Kept.{IsKeptOf}
use Rattle.grb_editions.proofs.Taken.{same_still, same_then}
use Rattle.grb_editions.proofs.edition.keep_all.Goals as goal

pub results-init : goal.results-init
results-init c = record { table = λ cs kept was. was; same = same_still c.args.table.now; stays = λ k v e. e; first = λ n below k from. refl }

pub results-preserved : goal.results-preserved
results-preserved c =
    let k : Kept = c.index-results-at.result in
    record {
      table = λ cs kept was.
          let is : IsKeptOf cs k = subst (λ (x : Kept). IsKeptOf cs x) (sym c.index-results-at.is) (kept c.results.at k c.results-test.true) in
          c.keep.ensures.table cs (c.results.invariant.table cs kept was) is.result;
      same = same_then c.args.table.now c.results.table c.keep.new.self c.results.invariant.same c.keep.ensures.same;
      stays = λ i v e. c.keep.ensures.stays i v (c.results.invariant.stays i v e);
      first = λ n below i from.
          let is : k.at < n = subst (λ (x : Kept). x.at < n) (sym c.index-results-at.is) (below c.results.at k c.results-test.true) in
          c.keep.ensures.others i (λ e. omega (arith, e, is, from)) ∙ c.results.invariant.first n below i from;
    }
