use Rattle.std.proofs.Common.{◌≡◌, List, length, map, take, ap, sym, ◌∙◌, arith}
use Rattle.std.proofs.lemmas.List.{length-map, take_all}
use Rattle.grb_call.specs.declared.call.Call.{Call}
use Rattle.grb_editions.proofs.Begins.{begin_next, lent_call}
use Rattle.grb_editions.proofs.Taken.{kept_on}
use Rattle.grb_editions.proofs.edition.begin_with.Goals as goal

pub calls-preserved : goal.calls-preserved
calls-preserved c =
    let calls : List Call = map (λ a. a.now) c.args.calls.now in
    let fits = c.calls.invariant.fits in
    let lent = lent_call (λ a. a.now) c.args.calls.now c.calls.at c.index-calls-at.result c.index-calls-at.is in
    record {
      fits = fits;
      same = begin_next calls c.args.first.now c.calls.at c.index-calls-at.result.now c.index-first-at.result c.calls-test.true (omega (arith, fits, length-map c.args.calls.now (λ a. a.now))) lent c.index-first-at.is
          (c.is_same_call.ensures c.if-not-is_same_call.false) c.calls.invariant.same;
    }

pub returns-clause-kept : goal.returns-clause-kept
returns-clause-kept c is =
    let calls : List Call = map (λ a. a.now) c.args.calls.now in let first : List Call = c.args.first.now in
    let all : length first ≡ c.calls.at = omega (arith, c.calls-test.false, c.calls.auto.at-end) in
    let same : take (length first) calls ≡ first = ap (λ n. take n calls) all ∙ (c.calls.invariant.same ∙ take_all c.calls.at first (omega (arith, all))) in
    kept_on calls first same (omega (arith, c.calls.invariant.fits, length-map c.args.calls.now (λ a. a.now)))
