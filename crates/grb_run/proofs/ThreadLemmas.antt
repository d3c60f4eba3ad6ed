-- Thread sections: jobs, what their threads return, and how main's pass gathers it.
use Rattle.std.proofs.Common.{◌≡◌, ℕ, ◌<◌, List, [], ◌∷◌, ◌++◌, length, refl, sym, ap, ◌∙◌, subst, append_assoc, append-nil, arith, suc}
use Rattle.grb_run.proofs.Prelude.{Result, Ok, Err, IfOk, flat_map, slice_index_or, remove, AllocError, All-nil, All-cons, StepAnswer, Shared, Knowing, Making, IsPassOf, Step, FinishedSection, Job, Stage, AreTold, AreThreadsTold, MeetsAll, IsJob, AreJobs, IsEnded, AreEnded, AreAsked, IsGathered, AreGathered, AreThreadsRun}
use Rattle.std.specs.Prelude.{All}
use Rattle.std.specs.PromisedHandle.{KeepsAt, KeepsEach}
use Rattle.std.specs.declared.thread.PromisedHandle.{PromisedHandle}
use Rattle.std.specs.declared.thread.Promise as Promise
use Rattle.grb_call.specs.declared.ids.Object.{Object}
use Rattle.grb_context.specs.Meeting.{Met}
use Rattle.grb_run.specs.declared.threads.ThreadPromise.{ThreadPromise}

-- the first element, taken out
pub first_removed : {X : Type 0} (xs rest : List X) (x : X) → 0 < length xs → x ≡ slice_index_or xs 0 x → rest ≡ remove xs 0 → xs ≡ x ∷ rest
first_removed [] rest x some is are = absurd (omega (arith, some))
first_removed (y ∷ xs) rest x some is are = ap (λ l. y ∷ l) (sym are) ∙ ap (λ z. z ∷ rest) (sym is)

module _ (context : Shared) where
  -- one job more
  pub AreJobs-next : (main : Stage) (all_passes passes rest_passes : List Knowing) (all_threads threads rest_threads : List (List Step)) (new : Knowing) (steps : List Step)
      (jobs now : List Job) (job : Job) → passes ≡ new ∷ rest_passes → threads ≡ steps ∷ rest_threads → now ≡ jobs ++ job ∷ [] → IsJob context main new steps job
      → ((more : List Job) → AreJobs context main passes threads more → AreJobs context main all_passes all_threads (jobs ++ more))
      → (more : List Job) → AreJobs context main rest_passes rest_threads more → AreJobs context main all_passes all_threads (now ++ more)
  AreJobs-next main all_passes passes rest_passes all_threads threads rest_threads new steps jobs now job passes_are threads_are pushed is so_far more are =
      subst (AreJobs context main all_passes all_threads) (sym (append_assoc jobs (job ∷ []) more) ∙ ap (λ l. l ++ more) (sym pushed))
      (so_far (job ∷ more) (rw (passes_are, threads_are) (is, are)))

  -- the jobs' passes are of the context
  pub passes_of : (main : Stage) (passes : List Knowing) (threads : List (List Step)) (jobs : List Job) → AreJobs context main passes threads jobs
      → All (λ job. IsPassOf context job.pass) jobs
  passes_of main [] [] [] are = All-nil (λ (job : Job). IsPassOf context job.pass)
  passes_of main [] [] (job ∷ jobs) are = absurd are
  passes_of main [] (s ∷ threads) jobs are = absurd are
  passes_of main (p ∷ passes) [] jobs are = absurd are
  passes_of main (p ∷ passes) (s ∷ threads) [] are = absurd are
  passes_of main (p ∷ passes) (s ∷ threads) (job ∷ jobs) are = All-cons (λ (job : Job). IsPassOf context job.pass) job jobs are.0.pass (passes_of main passes threads jobs are.1)

  pub ended_passes : (jobs : List Job) (ended : List (Result FinishedSection AllocError)) → AreEnded context jobs ended
      → All (λ one. IfOk one (λ (e : FinishedSection). IsPassOf context e.pass)) ended
  ended_passes [] [] are = All-nil (λ (one : Result FinishedSection AllocError). IfOk one (λ (e : FinishedSection). IsPassOf context e.pass))
  ended_passes [] (one ∷ ended) are = absurd are
  ended_passes (job ∷ jobs) [] are = absurd are
  ended_passes (job ∷ jobs) (Ok one ∷ ended) are =
      All-cons (λ (one : Result FinishedSection AllocError). IfOk one (λ (e : FinishedSection). IsPassOf context e.pass)) (Ok one) ended are.0.pass (ended_passes jobs ended are.1)
  ended_passes (job ∷ jobs) (Err e ∷ ended) are =
      All-cons (λ (one : Result FinishedSection AllocError). IfOk one (λ (e : FinishedSection). IsPassOf context e.pass)) (Err e) ended tt (ended_passes jobs ended are.1)

  -- one thread more
  pub AreAsked-next : (all here rest : List Job) (job : Job) (running now : List (PromisedHandle (Result FinishedSection AllocError) ThreadPromise)) (one : PromisedHandle (Result FinishedSection AllocError) ThreadPromise)
      → here ≡ job ∷ rest → now ≡ running ++ one ∷ [] → one.promise.context.value ≡ context → one.promise.job.value ≡ job
      → ((more : List (PromisedHandle (Result FinishedSection AllocError) ThreadPromise)) → AreAsked context here more → AreAsked context all (running ++ more))
      → (more : List (PromisedHandle (Result FinishedSection AllocError) ThreadPromise)) → AreAsked context rest more → AreAsked context all (now ++ more)
  AreAsked-next all here rest job running now one here_is pushed of_context of_job so_far more are =
      subst (AreAsked context all) (sym (append_assoc running (one ∷ []) more) ∙ ap (λ l. l ++ more) (sym pushed))
      (so_far (one ∷ more) (subst (λ l. AreAsked context l (one ∷ more)) (sym here_is) (of_context, of_job, are)))

  -- what joined threads return
  module _ (g : Promise.Ghosts ThreadPromise (Result FinishedSection AllocError)) (keeps : (p : ThreadPromise) (r : Result FinishedSection AllocError) → g.kept_by p r → IfOk r (IsEnded p.context.value p.job.value)) where
    kept_at : (job : Job) (h : PromisedHandle (Result FinishedSection AllocError) ThreadPromise) (hs : List (PromisedHandle (Result FinishedSection AllocError) ThreadPromise)) (r : Result FinishedSection AllocError)
        → h.promise.context.value ≡ context → h.promise.job.value ≡ job → KeepsAt g (h ∷ hs) 0 r → IfOk r (IsEnded context job)
    kept_at job h hs r of_context of_job at =
        subst (λ c. IfOk r (IsEnded c job)) of_context
        (subst (λ j. IfOk r (IsEnded h.promise.context.value j)) of_job (subst (λ (x : PromisedHandle (Result FinishedSection AllocError) ThreadPromise). IfOk r (IsEnded x.promise.context.value x.promise.job.value)) at.handle_is (keeps at.handle.promise r at.kept)))

    pub AreEnded-of : (jobs : List Job) (running : List (PromisedHandle (Result FinishedSection AllocError) ThreadPromise)) (ended : List (Result FinishedSection AllocError)) (n : ℕ) → AreAsked context jobs running
        → length running ≡ n → length ended ≡ n → KeepsEach g n running ended → AreEnded context jobs ended
    AreEnded-of [] [] [] n asked long same keep = tt
    AreEnded-of [] [] (r ∷ rs) n asked long same keep = absurd (omega (arith, long, same))
    AreEnded-of [] (h ∷ hs) ended n asked long same keep = absurd asked
    AreEnded-of (job ∷ jobs) [] ended n asked long same keep = absurd asked
    AreEnded-of (job ∷ jobs) (h ∷ hs) [] n asked long same keep = absurd (omega (arith, long, same))
    AreEnded-of (job ∷ jobs) (h ∷ hs) (r ∷ rs) n asked long same keep = (
      kept_at job h hs r asked.0 asked.1 (keep 0 r (omega (arith, long))).1,
      AreEnded-of jobs hs rs (length hs) asked.2 refl (omega (arith, long, same))
          (λ i d lt. let at = (keep (suc i) d (omega (arith, long, lt))).1 in (refl, record { handle = at.handle; handle_is = at.handle_is; kept = at.kept })),
    )

  -- one thread section more that is gathered
  pub AreGathered-next : (first : Knowing) (begun : List StepAnswer) (all here rest : List (Result FinishedSection AllocError)) (one : FinishedSection) (main next : Knowing) (before more : List StepAnswer)
      → here ≡ Ok one ∷ rest → IsGathered context main before one next more
      → ((after : Knowing) (answers : List StepAnswer) → AreGathered context main before here after answers → AreGathered context first begun all after answers)
      → (after : Knowing) (answers : List StepAnswer) → AreGathered context next more rest after answers → AreGathered context first begun all after answers
  AreGathered-next first begun all here rest one main next before more here_is is so_far after answers are =
      so_far after answers (subst (λ l. AreGathered context main before l after answers) (sym here_is) (next, more, is, are))

  -- all of it together
  gathered : (main : Stage) (passes : List Knowing) (threads : List (List Step)) (jobs : List Job) (results : List (Result FinishedSection AllocError)) (p : Knowing) (before : List StepAnswer)
      (after : Knowing) (all : List StepAnswer) → AreJobs context main passes threads jobs → AreEnded context jobs results → AreGathered context p before results after all
      → (answers : List (List StepAnswer)) × (ended : List Knowing) × AreThreadsTold context main passes threads answers ended × MeetsAll context p ended after
      × (all ≡ before ++ flat_map (λ (more : List StepAnswer). more) answers)
  gathered main [] [] [] [] p before after all jobs ended are = ([], [], tt, are.0, are.1 ∙ sym (append-nil before))
  gathered main [] [] [] (r ∷ results) p before after all jobs ended are = absurd ended
  gathered main (q ∷ passes) (steps ∷ threads) (job ∷ more_jobs) [] p before after all jobs ended are = absurd ended
  gathered main (q ∷ passes) (steps ∷ threads) (job ∷ more_jobs) (Err e ∷ results) p before after all jobs ended are = absurd are
  gathered main (q ∷ passes) (steps ∷ threads) (job ∷ more_jobs) (Ok one ∷ results) p before after all jobs ended are =
      let is = are.2 in
      let rest = gathered main passes threads more_jobs results are.0 are.1 after all jobs.1 ended.1 are.3 in
      let told : AreTold context (record { objects = main.objects; pass = job.pass }) steps one.answers.items (record { objects = ended.0.objects; pass = one.pass }) =
      subst (λ s. AreTold context (record { objects = main.objects; pass = job.pass }) s one.answers.items (record { objects = ended.0.objects; pass = one.pass })) jobs.0.steps_are
      (subst (λ o. AreTold context (record { objects = o; pass = job.pass }) job.steps one.answers.items (record { objects = ended.0.objects; pass = one.pass })) jobs.0.objects ended.0.told) in (
        one.answers.items ∷ rest.0,
        one.pass ∷ rest.1,
        (record { met = job.pass; meets = jobs.0.meets; objects = ended.0.objects; told = told }, rest.2),
        (are.0, is.meets, rest.3),
        rest.4 ∙ ap (λ l. l ++ flat_map (λ (more : List StepAnswer). more) rest.0) is.answers_are ∙ append_assoc before one.answers.items (flat_map (λ (more : List StepAnswer). more) rest.0),
      )
  gathered main passes threads jobs results p before after all are_jobs ended are = absurd are_jobs

  -- what a pass had made before plays no part in a meeting
  met_other : (new met p : Knowing) (made : Making) → Met context new met (record p { made = made }) (Ok tt) → Met context new met p (Ok tt)
  met_other new met p made m = record { pass = m.pass; met = m.met; learns = m.learns; knows = m.knows; own = m.own; steps = m.steps; looks = m.looks; made = m.made }

  met_first : (p met other : Knowing) (made : Making) → Met context (record p { made = made }) met other (Ok tt) → Met context p met other (Ok tt)
  met_first p met other made m = let l = m.learns in record {
    pass = m.pass;
    met = m.met;
    learns = record { grown = l.grown; own = l.own; learnt = l.learnt; known_is = l.known_is; others = l.others; passes = l.passes; statuses = l.statuses; settled = l.settled };
    knows = m.knows;
    own = m.own;
    steps = m.steps;
    looks = m.looks;
    made = m.made;
  }

  told_alike : (objects : List Object) (p : Knowing) (made : Making) (passes : List Knowing) (threads : List (List Step)) (answers : List (List StepAnswer)) (ended : List Knowing)
      → AreThreadsTold context (record { objects = objects; pass = record p { made = made } }) passes threads answers ended → AreThreadsTold context (record { objects = objects; pass = p }) passes threads answers ended
  told_alike objects p made [] [] [] [] are = tt
  told_alike objects p made (new ∷ passes) (steps ∷ threads) (answers ∷ more) (ended ∷ all) are =
      let is = are.0 in
      (record { met = is.met; meets = met_other new is.met p made is.meets; objects = is.objects; told = is.told }, told_alike objects p made passes threads more all are.1)
  told_alike objects p made passes threads answers ended are = absurd are

  meets_alike : (objects : List Object) (p : Knowing) (made : Making) (passes : List Knowing) (threads : List (List Step)) (answers : List (List StepAnswer)) (ended : List Knowing) (after : Knowing) → (length threads ≡ 0 → ⊥)
      → AreThreadsTold context (record { objects = objects; pass = record p { made = made } }) passes threads answers ended → MeetsAll context (record p { made = made }) ended after → MeetsAll context p ended after
  meets_alike objects p made [] [] [] [] after some are meets = absurd (some refl)
  meets_alike objects p made (new ∷ passes) (steps ∷ threads) (answers ∷ more) (ended ∷ all) after some are meets = (meets.0, met_first p meets.0 ended made meets.1, meets.2)
  meets_alike objects p made passes threads answers ended after some are meets = absurd are

  -- nor in what thread sections come to, where there are some
  pub threads_alike : (objects : List Object) (p : Knowing) (made : Making) (passes : List Knowing) (threads : List (List Step)) (before : List StepAnswer) (after : Knowing) (all : List StepAnswer) → (length threads ≡ 0 → ⊥)
      → AreThreadsRun context (record { objects = objects; pass = record p { made = made } }) passes threads before after all → AreThreadsRun context (record { objects = objects; pass = p }) passes threads before after all
  threads_alike objects p made passes threads before after all some run = record {
    answers = run.answers;
    ended = run.ended;
    told = told_alike objects p made passes threads run.answers run.ended run.told;
    meets = meets_alike objects p made passes threads run.answers run.ended after some run.told run.meets;
    all_are = run.all_are;
  }

  pub threads_run : (main : Stage) (passes : List Knowing) (threads : List (List Step)) (jobs : List Job) (results : List (Result FinishedSection AllocError)) (before : List StepAnswer) (after : Knowing)
      (all : List StepAnswer) → AreJobs context main passes threads jobs → AreEnded context jobs results → AreGathered context main.pass before results after all
      → AreThreadsRun context main passes threads before after all
  threads_run main passes threads jobs results before after all are_jobs ended are =
      let it = gathered main passes threads jobs results main.pass before after all are_jobs ended are in
      record { answers = it.0; ended = it.1; told = it.2; meets = it.3; all_are = it.4 }
