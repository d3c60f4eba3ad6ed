-- Runs of steps with all that they ask for.
use Rattle.std.proofs.Common.{inl, inr, ◌≡◌, ◌≢◌, ℕ, List, [], ◌∷◌, length, refl, ap, ◌∙◌, subst}
use Rattle.grb_run.proofs.Prelude.{All-head, All-tail, Ok, Err, Answer, StepAnswer, Loaded, call_of, Statement, Step, Standing, standing_after, making, filling, answer_in, statement_done, filled, load_done, with_asked, asked, told_by, done, answers_in, IsAnswer, IsSaid, IsFilled, IsLoadDone, IsToldBy, IsDone, IsRun, WasServed}
use Rattle.std.specs.Prelude.{All, Option, Some, None}
use Rattle.grb_core.specs.declared.refusal.Refusal.TheVariants.{OutOfMemory, Panic}
use Rattle.grb_call.specs.declared.call.Call.{Call}
use Rattle.grb_call.specs.declared.reply.Reply.{Reply}
use Rattle.grb_call.specs.History.{History, store_of}
use Rattle.grb_run.specs.declared.loads.Step.TheVariants as step
use Rattle.grb_replies.specs.declared.step_answer.StepAnswer.TheVariants as told

-- neither memory nor a record was refused to a call
abbrev Served : Answer → Type 0
Served a = (a ≢ Err OutOfMemory) × (a ≢ Err Panic)

replied : (reply : Reply) → Served (Ok reply)
replied reply = ((λ e. let f = e in cc), (λ e. let f = e in cc))

served : (room : ℕ) (h : History) (c : Call) (a : Answer) → Served a → IsAnswer room h c a → a ≡ answer_in room h c
served room h c (Err OutOfMemory) had is = absurd (had.0 refl)
served room h c (Err Panic) had is = absurd (had.1 refl)
served room h c a had is = is

-- nor to the call of what was served
served_call : (r : Answer) (a : StepAnswer) → WasServed a → a ≡ told.Call r → Served r
served_call r a had is = ((λ e. had.0 (is ∙ ap told.Call e)), (λ e. had.1 (is ∙ ap told.Call e)))

-- what is told of a statement that was served
told-served : (asks : Option StepAnswer) (r : Answer) (a : StepAnswer) → WasServed a → IsToldBy asks r a → Served r × (a ≡ told_by asks r)
told-served (Some entries) (Ok reply) a had (inl is) = (replied reply, is)
told-served (Some entries) (Ok reply) a had (inr is) = absurd (had.0 is)
told-served (Some entries) (Err refusal) a had is = (served_call (Err refusal) a had is, is)
told-served None r a had is = (served_call r a had is, is)

statement_done-served : (room : ℕ) (at : Standing) (s : Statement) (a : Answer) (after : Standing) → Served a → IsSaid room at s a after → (a, after) ≡ statement_done room at s
statement_done-served room at s a after had is =
    ap (λ x. (a, x)) is.after_is ∙ ap (λ x. (x, standing_after at s x)) (served room at.history (call_of at.objects s) a had is.answer)

-- the second statement of a load, by the answer to its first, which was served too
filled-served : (room : ℕ) (at : Standing) (s : Statement) (made a : Answer) (after : Standing) → Served a → IsFilled room at s made a after
    → Served made × ((a, after) ≡ filled room at s made)
filled-served room at s (Err refusal) a after had is = (subst Served is.0 had, (λ j. (is.0 j, is.1 j)))
filled-served room at s (Ok reply) a after had is = (replied reply, statement_done-served room at s a after had is)

load_done-served : (room : ℕ) (at : Standing) (m : Loaded) (a : Answer) (after : Standing) → Served a → IsLoadDone room at m a after → (a, after) ≡ load_done room at m
load_done-served room at m a after had is =
    let fill : Statement = filling (length at.objects) m in
    let second = filled-served room is.between fill is.made a after had is.fills in
    second.1 ∙ ap (λ p. filled room p.1 fill p.0) (statement_done-served room at (making m) is.made is.between second.0 is.makes)

done-served : (room : ℕ) (at : Standing) (s : Step) (a : StepAnswer) (after : Standing) → WasServed a → IsDone room at s a after → (a, after) ≡ done room at s
done-served room at (step.Statement s) a after had is =
    let tells = told-served (asked at.objects (store_of after.history) s) is.answer a had is.tells in
    ap (λ x. (x, after)) tells.1 ∙ ap (with_asked at s) (statement_done-served room at s is.answer after tells.0 is.said)
done-served room at (step.Load m) a after had is =
    ap (λ x. (x, after)) is.tells
    ∙ ap (λ (d : Answer × Standing). (told.Call d.0, d.1)) (load_done-served room at m is.answer after (served_call is.answer a had is.tells) is.loaded)

pub IsRun-served : (room : ℕ) (at : Standing) (steps : List Step) (answers : List StepAnswer) → All WasServed answers → IsRun room at steps answers → answers ≡ answers_in room at steps
IsRun-served room at [] [] had run = refl
IsRun-served room at [] (a ∷ more) had run = absurd run
IsRun-served room at (s ∷ steps) [] had run = absurd run
IsRun-served room at (s ∷ steps) (a ∷ more) had run =
    let here = done-served room at s a run.0 (All-head WasServed a more had) run.1 in
    ap (λ answers. a ∷ answers) (IsRun-served room run.0 steps more (All-tail WasServed a more had) run.2)
    ∙ ap (λ d. d.0 ∷ answers_in room d.1 steps) here
