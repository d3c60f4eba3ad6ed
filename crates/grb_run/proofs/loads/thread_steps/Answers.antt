use Rattle.std.proofs.Common.{◌≡◌, [], ◌∷◌, ◌++◌, map, refl, sym, ap, subst, ◌∙◌, append_assoc, rules}
use Rattle.grb_run.proofs.Prelude.{err_from_is_err_and, AreThreadSteps}
use Rattle.grb_run.proofs.LoadLemmas.{AreThreadSteps-push, AreSteps-of, IsWhyNotLoaded-of, why_one}
use Rattle.grb_run.proofs.loads.thread_steps.Goals as goal

pub returns-in_err-steps-clause-fault : goal.returns-in_err-steps-clause-fault
returns-in_err-steps-clause-fault g c =
    let now = c.loop-commands in
    let here : now.commands-iterator.rest.items ≡ c.in-Some.commands ∷ c.next.new.self.rest.items = search rules in
    let p = err_from_is_err_and c.from_residual.result c.from_residual.ensures.1 in
    rw (p.1, p.2)
    (why_one _ now.invariant.before c.in-Some.commands.items (map (λ commands. commands.items) c.next.new.self.rest.items) _ _ _
    (now.invariant.are ∙ ap (λ l. now.invariant.before ++ map (λ commands. commands.items) l) here) now.invariant.loaded
    (IsWhyNotLoaded-of _ _ _ _ _ now.invariant.files refl c.in_err-steps.ensures.fault))

pub loop-commands-preserved : goal.loop-commands-preserved
loop-commands-preserved g c =
    let now = c.loop-commands in
    let here : now.commands-iterator.rest.items ≡ c.in-Some.commands ∷ c.next.new.self.rest.items = search rules in
    let pushed : c.push.new.self.items ≡ now.all.items ++ c.in_ok-steps.steps ∷ [] = search rules in
    record {
      before = now.invariant.before ++ c.in-Some.commands.items ∷ [];
      are =
          now.invariant.are ∙ ap (λ l. now.invariant.before ++ map (λ commands. commands.items) l) here
          ∙ sym (append_assoc now.invariant.before (c.in-Some.commands.items ∷ []) (map (λ commands. commands.items) c.next.new.self.rest.items));
      loaded =
          subst (AreThreadSteps (g.S.Source.file_bytes c.args.source.now) (now.invariant.before ++ c.in-Some.commands.items ∷ [])) (sym pushed)
          (AreThreadSteps-push _ _ _ _ _ now.invariant.loaded (AreSteps-of _ _ _ _ _ now.invariant.files refl c.in_ok-steps.ensures.steps));
      faults = c.in_ok-steps.ensures.source_faults ∙ now.invariant.faults;
      script = c.steps_of.ensures.script_stays ∙ now.invariant.script;
      files = λ path. c.steps_of.ensures.files_stay path ∙ now.invariant.files path;
    }
