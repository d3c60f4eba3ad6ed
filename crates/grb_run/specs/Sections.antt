-- believed: What the sections of a script are answered (own). Each has a pass of its own, and each of its calls keeps the promise
-- of a call. A thread section begins with what main's names stand for, and with what main's pass knew when main had ended.
use Rattle.std.specs.Prelude.{◌≡◌, ℕ, ◌+◌, List, [], ◌∷◌, ◌++◌, length, Ok, Err}
use Rattle.std.specs.List.{flat_map}
use Rattle.grb_call.specs.declared.ids.Object.{Object}
use Rattle.grb_context.specs.Answered.{Answered}
use Rattle.grb_context.specs.Explains.{Answer}
use Rattle.grb_call.specs.History.{store_of}
use Rattle.grb_context.specs.Known.{Shared, Knowing, known, AreNew}
use Rattle.grb_context.specs.Meeting.{Met}
use Rattle.grb_run.specs.Calls.{call_of}
use Rattle.grb_run.specs.Objects.{made_sort, objects_after}
use Rattle.grb_market.specs.declared.loaded.Loaded.{Loaded}
use Rattle.grb_order.specs.Order.{room_of}
use Rattle.grb_script.specs.declared.statement.Statement.{Statement}
use Rattle.grb_run.specs.declared.loads.Step.{Step}
use Rattle.grb_run.specs.declared.loads.Step.TheVariants as step
use Rattle.grb_run.specs.Loads.{Steps}
use Rattle.grb_run.specs.Printed.{making, filling}
use Rattle.grb_replies.specs.declared.step_answer.StepAnswer.{StepAnswer}
use Rattle.grb_replies.specs.declared.step_answer.StepAnswer.TheVariants as told
use Rattle.grb_run.specs.Told.{asked, IsToldBy}

-- where a section stands: what its names stand for, and what its pass knows
pub record Stage : Type 0 where
  pub objects : List Object
  pub pass : Knowing

-- the call of a statement was answered, and this is where its section stands behind it
pub record IsTold (context : Shared) (at : Stage) (s : Statement) (a : Answer) (after : Stage) : Type 0 where
  pub answered : Answered context at.pass after.pass (call_of at.objects s) a
  pub objects : after.objects ≡ objects_after at.objects (made_sort s) a

-- the same of the second statement of a load, by the answer to its first: where the matrix is not made, that is the answer
abbrev pub IsFillTold : Shared → Stage → Statement → Answer → Answer → Stage → Type 0
IsFillTold context at s (Err refusal) a after = (a ≡ Err refusal) × (after ≡ at)
IsFillTold context at s (Ok reply) a after = IsTold context at s a after

-- the same of both statements of a load
pub record IsLoadTold (context : Shared) (at : Stage) (m : Loaded) (a : Answer) (after : Stage) : Type 0 where
  pub made : Answer
  pub between : Stage
  pub makes : IsTold context at (making m) made between
  pub fills : IsFillTold context between (filling (length at.objects) m) made a after

-- what a statement is answered, by the answer to its call and by what its pass knows behind that
pub record IsStatementTold (context : Shared) (at : Stage) (s : Statement) (a : StepAnswer) (after : Stage) : Type 0 where
  pub answer : Answer
  pub said : IsTold context at s answer after
  pub tells : IsToldBy (asked at.objects (store_of (known after.pass)) s) answer a

-- what a load is answered
pub record IsLoadAnswerTold (context : Shared) (at : Stage) (m : Loaded) (a : StepAnswer) (after : Stage) : Type 0 where
  pub answer : Answer
  pub loaded : IsLoadTold context at m answer after
  pub tells : a ≡ told.Call answer

-- what a step is answered, and where its section stands behind it
abbrev pub IsStepTold : Shared → Stage → Step → StepAnswer → Stage → Type 0
IsStepTold context at (step.Statement s) a after = IsStatementTold context at s a after
IsStepTold context at (step.Load m) a after = IsLoadAnswerTold context at m a after

-- the same of the steps of a section, one behind another
abbrev pub AreTold : Shared → Stage → List Step → List StepAnswer → Stage → Type 0
AreTold context at [] [] after = after ≡ at
AreTold context at (s ∷ more) (a ∷ answers) after = (next : Stage) × IsStepTold context at s a next × AreTold context next more answers after
AreTold context at _ _ after = ⊥

-- a thread section: its pass met main's, ran the steps, and knows this behind them
pub record IsThreadTold (context : Shared) (main : Stage) (new : Knowing) (steps : List Step) (answers : List StepAnswer) (ended : Knowing) : Type 0 where
  pub met : Knowing
  pub meets : Met context new met main.pass (Ok tt)
  pub objects : List Object
  pub told : AreTold context (record { objects = main.objects; pass = met }) steps answers (record { objects = objects; pass = ended })

-- the same of all thread sections, by their numbers
abbrev pub AreThreadsTold : Shared → Stage → List Knowing → List (List Step) → List (List StepAnswer) → List Knowing → Type 0
AreThreadsTold context main [] [] [] [] = Unit {0}
AreThreadsTold context main (new ∷ passes) (steps ∷ threads) (answers ∷ more) (ended ∷ all) =
    IsThreadTold context main new steps answers ended × AreThreadsTold context main passes threads more all
AreThreadsTold context main _ _ _ _ = ⊥

-- a pass meets these passes, one after another
abbrev pub MeetsAll : Shared → Knowing → List Knowing → Knowing → Type 0
MeetsAll context p [] after = after ≡ p
MeetsAll context p (q ∷ passes) after = (next : Knowing) × Met context p next q (Ok tt) × MeetsAll context next passes after

-- the answers to the steps of a script, by section
pub record Answers : Type 0 where
  pub main : List StepAnswer
  pub threads : List (List StepAnswer)
  pub finally : List StepAnswer

-- main's answers, those of the threads by their numbers, and those of the last section
abbrev pub in_order : Answers → List StepAnswer
in_order answers = answers.main ++ flat_map (λ more. more) answers.threads ++ answers.finally

-- The answers to the sections of a script in a new store with room for so many calls: main's pass runs main; the pass of each thread
-- section meets it then and runs its section; and behind them main's pass meets these passes in turn and runs the last section, whose
-- names begin with main's
pub record IsScriptRun (room : ℕ) (script : Steps) (answers : Answers) : Type 0 where
  pub context : Shared
  pub room_is : room_of context.order ≡ room
  pub pass : Knowing
  pub passes : List Knowing
  pub new : AreNew context.order (length script.threads + 1) (pass ∷ passes) (length script.threads + 1)
  pub after_main : Stage
  pub main : AreTold context (record { objects = []; pass = pass }) script.main answers.main after_main
  pub ended : List Knowing
  pub threads : AreThreadsTold context after_main passes script.threads answers.threads ended
  pub met : Knowing
  pub meets : MeetsAll context after_main.pass ended met
  pub after_finally : Stage
  pub finally : AreTold context (record after_main { pass = met }) script.finally answers.finally after_finally

-- these are the answers to the sections of a script, in their order
pub record AreAnswers (room : ℕ) (script : Steps) (all : List StepAnswer) : Type 0 where
  pub answers : Answers
  pub run : IsScriptRun room script answers
  pub all_are : all ≡ in_order answers
