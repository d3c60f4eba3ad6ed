use Prim.{search}
use Rattle.std.proofs.Common.{rules, ◌≡◌, ◌≤◌, List, [], ◌∷◌, ◌++◌, length, map, sym, ◌∙◌, arith, vec_capacity}
use Rattle.std.proofs.lemmas.List.{length-map, take_more}
use Rattle.grb_call.specs.declared.call.Call.{Call}
use Rattle.grb_editions.proofs.Begins.{lent_call}
use Rattle.grb_editions.proofs.edition.copies.Goals as goal

pub calls-preserved : goal.calls-preserved
calls-preserved c =
    let calls : List Call = map (λ a. a.now) c.args.calls.now in
    let lent = lent_call (λ a. a.now) c.args.calls.now c.calls.at c.index-calls-at.result c.index-calls-at.is in
    let copy : c.in_ok-try_clone.field-0 ≡ c.index-calls-at.result.now = c.in_ok-try_clone.ensures.equal in
    let capacity : length c.args.calls.now ≤ vec_capacity c.push_reserved.new.self = search rules in
    record {
      capacity = capacity;
      copied = c.push_reserved.ensures.items ∙ (λ i. c.calls.invariant.copied i ++ (copy ∙ sym lent) i ∷ [])
          ∙ sym (take_more calls c.calls.at c.index-calls-at.result.now (omega (arith, c.calls-test.true, length-map c.args.calls.now (λ a. a.now))));
    }
