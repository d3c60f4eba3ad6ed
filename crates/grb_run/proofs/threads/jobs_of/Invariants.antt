use Rattle.std.proofs.Common.{◌≡◌, List, ◌++◌, length}
use Rattle.std.specs.Prelude.{All}
use Rattle.grb_run.proofs.Prelude.{IsPassOf, Job, AreJobs}
use Rattle.grb_run.proofs.threads.jobs_of.Given as goal

abbrev pub invariant-loop-steps : goal.invariant-loop-steps
invariant-loop-steps l = record {
  main : l.main ≡ l.initial.main;
  passes : All (IsPassOf l.context) l.passes.items;
  count : length l.passes.items ≡ length l.steps-iterator.rest.items;
  jobs : (more : List Job) → AreJobs l.context (record { objects = l.objects; pass = l.initial.main }) l.passes.items l.steps-iterator.rest.items more
      → AreJobs l.context (record { objects = l.objects; pass = l.initial.main }) l.fn.passes.items l.fn.threads.items (l.jobs.items ++ more);
}
