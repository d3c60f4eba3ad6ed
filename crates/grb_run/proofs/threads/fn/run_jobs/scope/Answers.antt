use Rattle.std.proofs.Common.{sym, ◌∙◌}
use Rattle.grb_run.proofs.ThreadLemmas.{AreEnded-of}
use Rattle.grb_run.proofs.threads.fn.run_jobs.scope.Goals as goal

pub returns-in-Ok : goal.returns-in-Ok
returns-in-Ok g c =
    record {
      ended =
          AreEnded-of _ _ (λ p r kept. kept) _ _ _ _ c.in_ok-running.ensures.running (sym c.in_ok-running.running.ok.0) (sym c.in-Ok.ended.ok.0 ∙ c.in-Ok.ensures.len)
          c.in-Ok.ensures.each;
      fault = tt;
    }
