use Rattle.std.proofs.Common.{◌≡◌, ◌<◌, [], ◌∷◌, ◌++◌, length, sym, ap, ◌∙◌, subst, append-nil, arith, rules}
use Rattle.std.specs.Prelude.{All}
use Rattle.grb_run.proofs.Prelude.{All-tail, Knowing, IsPassOf, Stage, IsJob, AreJobs}
use Rattle.grb_run.proofs.Steps.{none_left}
use Rattle.grb_run.proofs.ThreadLemmas.{AreJobs-next, first_removed}
use Rattle.grb_run.proofs.threads.jobs_of.Goals as goal

pub loop-steps-preserved : goal.loop-steps-preserved
loop-steps-preserved c =
    let now = c.loop-steps in
    let here : now.steps-iterator.rest.items ≡ c.in-Some.steps ∷ c.next.new.self.rest.items = search rules in
    let pushed : c.push.new.self.items ≡ now.jobs.items ++ c.in_ok-job_of.field-0 ∷ [] = search rules in
    let some : 0 < length now.passes.items = omega (arith, now.invariant.count, ap length here) in
    let passes_are = first_removed now.passes.items c.remove-pass.new.self.items c.remove-pass.result some c.remove-pass.ensures.value c.remove-pass.ensures.items in
    record {
      main = c.in_ok-job_of.ensures.main ∙ now.invariant.main;
      passes =
          All-tail (λ (pass : Knowing). IsPassOf c.args.context.now pass) c.remove-pass.result c.remove-pass.new.self.items
          (subst (All (λ (pass : Knowing). IsPassOf c.args.context.now pass)) passes_are now.invariant.passes);
      count = omega (arith, now.invariant.count, ap length here, ap length passes_are);
      jobs =
          AreJobs-next _ _ _ _ _ _ _ _ _ _ _ _ _ passes_are here pushed
          (subst (λ p. IsJob c.args.context.now (record { objects = c.args.objects.now; pass = p }) c.remove-pass.result c.in-Some.steps c.in_ok-job_of.field-0) now.invariant.main
          c.in_ok-job_of.ensures.job) now.invariant.jobs;
    }

pub returns-clause-jobs : goal.returns-clause-jobs
returns-clause-jobs c =
    let now = c.loop-steps in
    let done = none_left now.steps-iterator.rest.items _ now.steps-iterator.rest.ok.0 c.in-None.ensures.steps.0 in
    let none = none_left now.passes.items _ (sym now.invariant.count) (ap length done) in
    let main : Stage = record { objects = c.args.objects.now; pass = c.args.main.now } in
    subst (AreJobs c.args.context.now main c.args.passes.items c.args.threads.items) (append-nil now.jobs.items)
    (now.invariant.jobs []
    (subst (λ ts. AreJobs c.args.context.now main now.passes.items ts []) (sym done)
    (subst (λ ps. AreJobs c.args.context.now main ps [] []) (sym none) tt)))
