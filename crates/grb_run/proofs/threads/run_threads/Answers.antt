use Prim.{search}
use Rattle.std.proofs.Common.{◌≡◌, length, subst, rules}
use Rattle.grb_run.proofs.Prelude.{Knowing, on_ok_weaker, AreGathered, AreThreadsRun}
use Rattle.grb_run.proofs.ScriptEnds.{none_run}
use Rattle.grb_run.proofs.ThreadLemmas.{passes_of, ended_passes, threads_alike, threads_run}
use Rattle.grb_run.proofs.threads.run_threads.Goals as goal

pub returns-then-is_empty-clause-run : goal.returns-then-is_empty-clause-run
returns-then-is_empty-clause-run g c =
    let none : length c.args.threads.items ≡ 0 = search rules in
    none_run _ _ _ _ _ none c.requires.count

pub run_jobs-requires-after_bounds : goal.run_jobs-requires-after_bounds
run_jobs-requires-after_bounds g c κs within = passes_of _ _ _ _ _ c.in_ok-jobs.ensures.jobs

pub gather_all-requires-clause-ended : goal.gather_all-requires-clause-ended
gather_all-requires-clause-ended g c = ended_passes _ _ _ c.in_ok-ended.ensures.ended

pub returns-clause-run : goal.returns-clause-run
returns-clause-run g c =
    let some : length c.args.threads.items ≡ 0 → ⊥ = search rules in
    on_ok_weaker c.gather_all.result
    (λ gathered.
    threads_alike _ c.args.objects.now c.args.main.now c.prepare_main.new.main.made _ _ _ _ _ some
    (subst
    (λ (k : Knowing).
    AreThreadsRun c.args.context.now (record { objects = c.args.objects.now; pass = k }) c.args.passes.items c.args.threads.items c.args.answers.now.items c.gather_all.new.main c.gather_all.new.answers.items)
    c.prepare_main.ensures.same
    (threads_run _ _ _ _ _ _ _ _ _ c.in_ok-jobs.ensures.jobs c.in_ok-ended.ensures.ended
    (subst (λ m. AreGathered c.args.context.now m c.args.answers.now.items c.in_ok-ended.ended.items c.gather_all.new.main c.gather_all.new.answers.items) c.in_ok-jobs.ensures.main gathered))))
    c.gather_all.ensures.gathered
