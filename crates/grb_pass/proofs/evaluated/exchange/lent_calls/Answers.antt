use Prim.{search}
use Rattle.std.proofs.Common.{◌≡◌, List, [], ◌∷◌, map, rules, ap, subst, ◌∙◌}
use Rattle.grb_pass.proofs.Prelude.{slice_get, map-append, Call, calls_of, Knowing, known}
use Rattle.std.specs.Prelude.{Some}
use Rattle.grb_pass.proofs.Evaluating.{lent_next}
use Rattle.grb_pass.proofs.evaluated.exchange.lent_calls.Goals as goal

pub calls-preserved : goal.calls-preserved
calls-preserved c =
    let at = c.calls.at in let cs : List Call = calls_of (known c.args.reader.now) in
    let call : slice_get cs at ≡ Some c.call_at.result.now = subst (λ (p : Knowing). slice_get (calls_of (known p)) at ≡ Some c.call_at.result.now) c.calls.invariant.same c.call_at.ensures.call in
    record {
      same = c.call_at.ensures.same ∙ c.calls.invariant.same;
      capacity = search rules;
      count = search rules;
      calls = ap (map (λ x. x.now)) c.push_reserved.ensures.items ∙ map-append (λ x. x.now) c.calls.calls.items (c.call_at.result ∷ []) ∙ lent_next cs at c.call_at.result.now (map (λ x. x.now) c.calls.calls.items) call c.calls.invariant.calls;
    }
