-- believed: What a script prints (own): a line for each of its statements, loads too, in their order.
use Rattle.std.specs.Prelude.{◌≡◌, ◌≢◌, ℕ, Bool, ◌==◌, ◌&&◌, if◌then◌else◌, List, [], ◌∷◌, length, is_none, Ok, Err}
use Rattle.std.specs.List.{flat_map}
use Rattle.grb_core.specs.declared.refusal.Refusal.TheVariants.{OrderFull, OutOfMemory, Panic}
use Rattle.grb_call.specs.declared.call.Call.{Call}
use Rattle.grb_call.specs.declared.ids.Object.{Object}
use Rattle.grb_call.specs.Kinds.{enters}
use Rattle.grb_call.specs.After.{refused, answer}
use Rattle.grb_call.specs.History.{History, store_of}
use Rattle.grb_context.specs.Explains.{Answer, MayLackMemory, MayLackRecord, history_after}
use Rattle.grb_core.specs.declared.domain.Domain.{Domain}
use Rattle.grb_core.specs.declared.domain.Domain.TheVariants as domain
use Rattle.grb_core.specs.declared.monoid.Monoid.{Monoid}
use Rattle.grb_core.specs.declared.monoid.Monoid.TheVariants as monoid
use Rattle.grb_market.specs.declared.loaded.Loaded.{Loaded}
use Rattle.grb_script.specs.declared.statement.Statement.{Statement}
use Rattle.grb_script.specs.declared.statement.Statement.TheVariants as statement
use Rattle.grb_run.specs.declared.loads.Step.{Step}
use Rattle.grb_run.specs.declared.loads.Step.TheVariants as step
use Rattle.grb_run.specs.Calls.{call_of}
use Rattle.grb_run.specs.Objects.{made_sort, objects_after}
use Rattle.grb_replies.specs.declared.step_answer.StepAnswer.{StepAnswer}
use Rattle.grb_replies.specs.declared.step_answer.StepAnswer.TheVariants as told
use Rattle.grb_replies.specs.ReplyLine.{reply_line}
use Rattle.grb_run.specs.Told.{asked, told_by, IsToldBy}

-- the call would be entered, and the history has all the calls that there is room for
abbrev pub is_full : ℕ → History → Call → Bool
is_full room h c = is_none (refused (store_of h) c) && enters c && (length h == room)

-- the answer to a call behind these calls, where neither memory nor a record is refused
abbrev pub answer_in : ℕ → History → Call → Answer
answer_in room h c = if is_full room h c then Err OrderFull else answer (store_of h) c

-- where a script stands: what its names stand for, and the calls that were entered
pub record Standing : Type 0 where
  pub objects : List Object
  pub history : History

abbrev pub start : Standing
start = record { objects = []; history = [] }

-- where it stands behind a statement that was answered so
abbrev pub standing_after : Standing → Statement → Answer → Standing
standing_after at s a = record { objects = objects_after at.objects (made_sort s) a; history = history_after 0 (call_of at.objects s) a at.history }

-- the statements that a load stands for: its matrix is made, and then built, where so many names stood before. No place of the list
-- repeats, so the monoid plays no part
abbrev pub making : Loaded → Statement
making m = statement.Matrix m.domain m.nrows m.ncols

abbrev pub sum_of : Domain → Monoid
sum_of domain.Bool = monoid.Lor
sum_of domain.Uint64 = monoid.Plus

abbrev pub filling : ℕ → Loaded → Statement
filling name m = statement.BuildMatrix name m.tuples (sum_of m.domain)

-- the answer to a statement's call where neither memory nor a record is refused, and where the script stands behind it
abbrev pub statement_done : ℕ → Standing → Statement → Answer × Standing
statement_done room at s = let a = answer_in room at.history (call_of at.objects s) in (a, standing_after at s a)

-- the same of the second statement of a load, by the answer to its first: where the matrix is not made, that is the answer, and nothing
-- is built
abbrev pub filled : ℕ → Standing → Statement → Answer → Answer × Standing
filled room at s (Err refusal) = (Err refusal, at)
filled room at s (Ok reply) = statement_done room at s

-- the same of both statements of a load
abbrev pub load_done : ℕ → Standing → Loaded → Answer × Standing
load_done room at m = let made = statement_done room at (making m) in filled room made.1 (filling (length at.objects) m) made.0

-- what a statement is answered, by the answer to its call and by where the script stands behind that
abbrev pub with_asked : Standing → Statement → Answer × Standing → StepAnswer × Standing
with_asked at s d = (told_by (asked at.objects (store_of d.1.history) s) d.0, d.1)

-- what a step is answered where neither memory nor a record is refused, and where the script stands behind it
abbrev pub done : ℕ → Standing → Step → StepAnswer × Standing
done room at (step.Statement s) = with_asked at s (statement_done room at s)
done room at (step.Load m) = let d = load_done room at m in (told.Call d.0, d.1)

-- the answers to these steps, one behind another, where neither memory nor a record is refused
abbrev pub answers_in : ℕ → Standing → List Step → List StepAnswer
answers_in room at [] = []
answers_in room at (s ∷ more) = let d = done room at s in d.0 ∷ answers_in room d.1 more

-- the answer to a call behind these calls; memory or a record may be refused in place of it, memory as where no call is settled
abbrev pub IsAnswer : ℕ → History → Call → Answer → Type 0
IsAnswer room h c (Err OutOfMemory) = MayLackMemory room 0 h c
IsAnswer room h c (Err Panic) = MayLackRecord room h c
IsAnswer room h c a = a ≡ answer_in room h c

-- the answer to a statement's call, and where the script stands behind it
pub record IsSaid (room : ℕ) (at : Standing) (s : Statement) (a : Answer) (after : Standing) : Type 0 where
  pub answer : IsAnswer room at.history (call_of at.objects s) a
  pub after_is : after ≡ standing_after at s a

-- the same of the second statement of a load, by the answer to its first
abbrev pub IsFilled : ℕ → Standing → Statement → Answer → Answer → Standing → Type 0
IsFilled room at s (Err refusal) a after = (a ≡ Err refusal) × (after ≡ at)
IsFilled room at s (Ok reply) a after = IsSaid room at s a after

-- the same of a load
pub record IsLoadDone (room : ℕ) (at : Standing) (m : Loaded) (a : Answer) (after : Standing) : Type 0 where
  pub made : Answer
  pub between : Standing
  pub makes : IsSaid room at (making m) made between
  pub fills : IsFilled room between (filling (length at.objects) m) made a after

-- what a statement is answered, and where the script stands behind it
pub record IsStatementDone (room : ℕ) (at : Standing) (s : Statement) (a : StepAnswer) (after : Standing) : Type 0 where
  pub answer : Answer
  pub said : IsSaid room at s answer after
  pub tells : IsToldBy (asked at.objects (store_of after.history) s) answer a

-- the same of a load
pub record IsLoadAnswered (room : ℕ) (at : Standing) (m : Loaded) (a : StepAnswer) (after : Standing) : Type 0 where
  pub answer : Answer
  pub loaded : IsLoadDone room at m answer after
  pub tells : a ≡ told.Call answer

-- the same of a step
abbrev pub IsDone : ℕ → Standing → Step → StepAnswer → Standing → Type 0
IsDone room at (step.Statement s) a after = IsStatementDone room at s a after
IsDone room at (step.Load m) a after = IsLoadAnswered room at m a after

-- the answers to these steps, one behind another
abbrev pub IsRun : ℕ → Standing → List Step → List StepAnswer → Type 0
IsRun room at [] [] = Unit {0}
IsRun room at (s ∷ more) (a ∷ answers) = (after : Standing) × IsDone room at s a after × IsRun room after more answers
IsRun room at _ _ = ⊥

-- neither memory nor a record was refused
abbrev pub WasServed : StepAnswer → Type 0
WasServed a = (a ≢ told.Call (Err OutOfMemory)) × (a ≢ told.Call (Err Panic))

-- what these steps print in a store with room for so many calls, where neither memory nor a record is refused
abbrev pub printed : ℕ → List Step → List ℕ
printed room steps = flat_map reply_line (answers_in room start steps)
