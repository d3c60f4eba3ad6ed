use Prim.{search}
use Rattle.std.proofs.Common.{rules, ◌≡◌, ℕ, ◌+◌, ◌++◌, ◌∷◌, [], List, length, take, sym, ap, subst, ◌∙◌, arith}
use Rattle.std.proofs.lemmas.List.{take_more, take_all, length_push}
use Rattle.grb_call.specs.declared.call.Call.{Call}
use Rattle.grb_context.specs.Explains.{Answer}
use Rattle.grb_context.specs.Ran.{AreAnswered}
use Rattle.grb_context.proofs.Running.{answered_more, ran}
use Rattle.grb_context.proofs.context.Context.run.Goals as goal

pub loop-call-preserved : goal.loop-call-preserved
loop-call-preserved c =
    let context = c.args.self.now in let old = c.args.pass.now in let mid = c.loop-call.pass in let new = c.call_lent.new.pass in
    let calls : List Call = c.args.calls.now in let i = c.loop-call.call-index in let call : Call = c.call-item.result in
    let answers : List Answer = c.loop-call.answers.items in
    let more : AreAnswered context old (take i calls ++ call ∷ []) (answers ++ c.call_lent.result ∷ []) new
    = answered_more context old mid new (take i calls) answers call c.call_lent.result c.loop-call.invariant.each c.call_lent.ensures.answered in
    let calls_more : take (i + 1) calls ≡ take i calls ++ call ∷ [] = take_more calls i call c.loop-call-test.true ∙ ap (λ (x : Call). take i calls ++ x ∷ []) (sym c.call-item.is) in
    record {
      pass = c.call_lent.ensures.pass;
      each = subst (λ (y : List Call × List Answer). AreAnswered context old y.0 y.1 new) (λ k. (sym calls_more k, sym c.push_reserved.ensures.items k)) more;
      count = ap length c.push_reserved.ensures.items ∙ length_push answers c.call_lent.result ∙ ap (λ (n : ℕ). n + 1) c.loop-call.invariant.count;
      capacity = rw c.push_reserved.ensures.capacity c.loop-call.invariant.capacity;
    }

pub returns-clause-ran : goal.returns-clause-ran
returns-clause-ran c =
    let context = c.args.self.now in let old = c.args.pass.now in let new = c.loop-call.pass in let calls : List Call = c.args.calls.now in
    let whole : take c.loop-call.call-index calls ≡ calls = take_all c.loop-call.call-index calls (omega (arith, c.loop-call-test.false)) in
    ran context old new calls c.loop-call.answers.items
    (subst (λ (l : List Call). AreAnswered context old l c.loop-call.answers.items new) whole c.loop-call.invariant.each)

pub returns-in_default-clause-unmade : goal.returns-in_default-clause-unmade
returns-in_default-clause-unmade c = search rules
