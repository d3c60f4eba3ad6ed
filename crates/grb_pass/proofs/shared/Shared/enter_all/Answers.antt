use Rattle.std.proofs.Common.{◌≡◌, List, [], ◌∷◌, ◌++◌, sym, ap, subst, ◌∙◌, append_assoc}
use Rattle.grb_pass.proofs.Prelude.{Call, Store, History, store_of, AreTaken, known}
use Rattle.grb_pass.specs.Succeeding.{made_by}
use Rattle.grb_pass.proofs.Succeeding.{store_of-push}
use Rattle.grb_pass.proofs.shared.Shared.enter_all.Goals as goal

pub calls-preserved : goal.calls-preserved
calls-preserved g c =
    let n = c.args.pass.now.view.number in
    let old : History = known c.calls.pass in
    let call : Call = c.in-Some.call in
    let rest : List Call = c.next.new.self.rest.items in
    let step : c.calls.call-iterator.rest.items ≡ call ∷ rest = c.in-Some.ensures.steps.0 in
    let taken : AreTaken (store_of old) (call ∷ rest) = subst (AreTaken (store_of old)) step c.calls.invariant.taken in
    let known_is : known c.enter_alone.new.pass ≡ old ++ (n, call) ∷ [] = c.in_ok-enter_alone.ensures.known ∙ ap (λ m. old ++ (m, call) ∷ []) c.calls.invariant.number in
    record {
      pass = c.in_ok-enter_alone.ensures.pass;
      number = c.in_ok-enter_alone.ensures.number ∙ c.calls.invariant.number;
      passes = c.in_ok-enter_alone.ensures.passes ∙ c.calls.invariant.passes;
      statuses = c.in_ok-enter_alone.ensures.statuses ∙ c.calls.invariant.statuses;
      settled = c.in_ok-enter_alone.ensures.settled ∙ c.calls.invariant.settled;
      taken = subst (λ (s : Store). AreTaken s rest) (sym (ap store_of known_is ∙ store_of-push old n call)) taken.2;
      known =
          ap (λ (h : History). h ++ made_by n rest) known_is
          ∙ append_assoc old ((n, call) ∷ []) (made_by n rest)
          ∙ ap (λ cs. old ++ made_by n cs) (sym step)
          ∙ c.calls.invariant.known;
    }
