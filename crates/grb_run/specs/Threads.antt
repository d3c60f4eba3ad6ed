-- believed: Thread sections as they are run (own): the job of each, what it came to, and how main's pass gathers that.
use Rattle.std.specs.Prelude.{◌≡◌, ◌≢◌, List, [], ◌∷◌, ◌++◌, IfOk, Result, Ok, Err}
use Rattle.std.specs.declared.alloc.AllocError.{AllocError}
use Rattle.std.specs.declared.thread.PromisedHandle.{PromisedHandle}
use Rattle.std.specs.List.{flat_map}
use Rattle.grb_call.specs.declared.ids.Object.{Object}
use Rattle.grb_context.specs.Known.{Shared, Knowing, IsPassOf}
use Rattle.grb_context.specs.Meeting.{Met}
use Rattle.grb_run.specs.declared.fault.RunFault.{RunFault}
use Rattle.grb_run.specs.declared.fault.RunFault.TheVariants as run
use Rattle.grb_run.specs.declared.loads.Step.{Step}
use Rattle.grb_run.specs.declared.threads.ThreadPromise.{ThreadPromise}
use Rattle.grb_run.specs.declared.threads.FinishedSection.{FinishedSection}
use Rattle.grb_replies.specs.declared.step_answer.StepAnswer.{StepAnswer}
use Rattle.grb_run.specs.declared.threads.Job.{Job}
use Rattle.grb_run.specs.Sections.{Stage, AreTold, AreThreadsTold, MeetsAll}

-- a thread section that is to run: its pass has met main's, and its names begin with main's
pub record IsJob (context : Shared) (main : Stage) (new : Knowing) (steps : List Step) (job : Job) : Type 0 where
  pub pass : IsPassOf context job.pass
  pub meets : Met context new job.pass main.pass (Ok tt)
  pub objects : job.objects.items ≡ main.objects
  pub steps_are : job.steps ≡ steps

abbrev pub AreJobs : Shared → Stage → List Knowing → List (List Step) → List Job → Type 0
AreJobs context main [] [] [] = Unit {0}
AreJobs context main (new ∷ passes) (steps ∷ threads) (job ∷ jobs) = IsJob context main new steps job × AreJobs context main passes threads jobs
AreJobs context main _ _ _ = ⊥

-- what the thread of a job returned
pub record IsEnded (context : Shared) (job : Job) (ended : FinishedSection) : Type 0 where
  pub pass : IsPassOf context ended.pass
  pub objects : List Object
  pub told : AreTold context (record { objects = job.objects.items; pass = job.pass }) job.steps ended.answers.items (record { objects = objects; pass = ended.pass })

abbrev pub AreEnded : Shared → List Job → List (Result FinishedSection AllocError) → Type 0
AreEnded context [] [] = Unit {0}
AreEnded context (job ∷ jobs) (one ∷ ended) = IfOk one (IsEnded context job) × AreEnded context jobs ended
AreEnded context _ _ = ⊥

-- these threads run these jobs
abbrev pub AreAsked : Shared → List Job → List (PromisedHandle (Result FinishedSection AllocError) ThreadPromise) → Type 0
AreAsked context [] [] = Unit {0}
AreAsked context (job ∷ jobs) (one ∷ running) = (one.promise.context.value ≡ context) × (one.promise.job.value ≡ job) × AreAsked context jobs running
AreAsked context _ _ = ⊥

-- main's pass met that of a thread section, and the section's answers stand behind those before
pub record IsGathered (context : Shared) (main : Knowing) (before : List StepAnswer) (ended : FinishedSection) (after : Knowing) (answers : List StepAnswer) : Type 0 where
  pub meets : Met context main after ended.pass (Ok tt)
  pub answers_are : answers ≡ before ++ ended.answers.items

abbrev pub AreGathered : Shared → Knowing → List StepAnswer → List (Result FinishedSection AllocError) → Knowing → List StepAnswer → Type 0
AreGathered context main before [] after answers = (after ≡ main) × (answers ≡ before)
AreGathered context main before (Ok one ∷ ended) after answers =
    (next : Knowing) × (more : List StepAnswer) × IsGathered context main before one next more × AreGathered context next more ended after answers
AreGathered context main before (Err e ∷ ended) after answers = ⊥

-- the thread sections were run, main's pass met theirs, and their answers stand behind those before
pub record AreThreadsRun (context : Shared) (main : Stage) (passes : List Knowing) (threads : List (List Step)) (before : List StepAnswer) (after : Knowing) (all : List StepAnswer) : Type 0 where
  pub answers : List (List StepAnswer)
  pub ended : List Knowing
  pub told : AreThreadsTold context main passes threads answers ended
  pub meets : MeetsAll context main.pass ended after
  pub all_are : all ≡ before ++ flat_map (λ (more : List StepAnswer). more) answers

-- why thread sections did not run to their ends
abbrev pub IsStop : RunFault → Type 0
IsStop run.OutOfMemory = Unit {0}
IsStop run.NoThread = Unit {0}
IsStop run.Panic = Unit {0}
IsStop _ = ⊥

-- the same of a script with these thread sections: where there is none, memory was refused
abbrev pub IsStopOf : List (List Step) → RunFault → Type 0
IsStopOf threads run.OutOfMemory = Unit {0}
IsStopOf threads run.NoThread = threads ≢ []
IsStopOf threads run.Panic = threads ≢ []
IsStopOf threads _ = ⊥
