use Rattle.std.proofs.Common.{◌≡◌, List, [], ◌∷◌, ◌++◌, sym, subst, append-nil, rules}
use Rattle.std.specs.Prelude.{All}
use Rattle.grb_run.proofs.Prelude.{All-tail, IsPassOf, Job, AreAsked}
use Rattle.grb_run.proofs.Steps.{none_left}
use Rattle.grb_run.proofs.ThreadLemmas.{AreAsked-next}
use Rattle.grb_run.proofs.threads.start_all.Goals as goal

pub loop-job-preserved : goal.loop-job-preserved
loop-job-preserved g c =
    let now = c.loop-job in
    let here : now.job-iterator.rest.items ≡ c.in-Some.job ∷ c.next.new.self.rest.items = search rules in
    let pushed : c.push.new.self.items ≡ now.running.items ++ c.in_ok-start.field-0 ∷ [] = search rules in
    record {
      passes =
          All-tail (λ (job : Job). IsPassOf c.args.context.now job.pass) c.in-Some.job c.next.new.self.rest.items
          (subst (All (λ (job : Job). IsPassOf c.args.context.now job.pass)) here now.invariant.passes);
      asked = AreAsked-next _ _ _ _ _ _ _ _ here pushed c.in_ok-start.ensures.context c.in_ok-start.ensures.job now.invariant.asked;
    }

pub returns-clause-running : goal.returns-clause-running
returns-clause-running g c =
    let now = c.loop-job in
    let done = none_left now.job-iterator.rest.items _ now.job-iterator.rest.ok.0 c.in-None.ensures.steps.0 in
    subst (AreAsked c.args.context.now c.args.jobs.items) (append-nil now.running.items)
    (now.invariant.asked [] (subst (λ (jobs : List Job). AreAsked c.args.context.now jobs []) (sym done) tt))
