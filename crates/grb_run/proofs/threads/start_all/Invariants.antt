use Rattle.std.proofs.Common.{List, ◌++◌}
use Rattle.grb_run.proofs.Prelude.{Result, AllocError, IsPassOf, FinishedSection, AreAsked}
use Rattle.std.specs.Prelude.{All}
use Rattle.std.specs.declared.thread.PromisedHandle.{PromisedHandle}
use Rattle.grb_run.specs.declared.threads.ThreadPromise.{ThreadPromise}
use Rattle.grb_run.proofs.threads.start_all.Given as goal

abbrev pub invariant-loop-job : goal.invariant-loop-job
invariant-loop-job g l = record {
  passes : All (λ job. IsPassOf l.context job.pass) l.job-iterator.rest.items;
  asked : (more : List (PromisedHandle (Result FinishedSection AllocError) ThreadPromise)) → AreAsked l.context l.job-iterator.rest.items more
      → AreAsked l.context l.fn.jobs.items (l.running.items ++ more);
}
