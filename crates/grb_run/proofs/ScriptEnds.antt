-- How a run of a script ends: its sections answered, its threads stopped, or its sink failed.
use Rattle.std.proofs.Common.{◌≡◌, ℕ, ◌+◌, ◌*◌, ◌<◌, ◌≤◌, List, [], ◌∷◌, ◌++◌, length, refl, sym, ap, ◌∙◌, subst, append-nil, arith}
use Rattle.std.specs.Prelude.{Option, None}
use Rattle.grb_run.proofs.Prelude.{length-map, flat_map, MOST_SEATS, StepAnswer, Shared, Knowing, AreNew, reply_line, room_of, Sections, listed, sections_of, script_fault, RunFault, Step, Files, Steps, AreScriptSteps, EndsWith, WroteBeginning, seats_of, Stage, AreTold, AreAnswers, AreThreadsRun, IsStopOf}
use Rattle.grb_call.specs.declared.ids.Object.{Object}
use Rattle.grb_market.specs.Sink.{AppendsBeginning}
use Rattle.grb_script.specs.declared.script.Script.{Script}
use Rattle.grb_run.specs.declared.fault.RunFault.TheVariants as run
use Rattle.grb_run.specs.declared.source.TheConstants.{MAX_SCRIPT}
use Rattle.grb_run.specs.Source.{IsGiven}
use Rattle.grb_run.proofs.ScriptRuns.{run_alone}

-- where there are no thread sections, nothing is run
pub none_run : (context : Shared) (main : Stage) (passes : List Knowing) (threads : List (List Step)) (before : List StepAnswer) → length threads ≡ 0 → length passes ≡ length threads
    → AreThreadsRun context main passes threads before main.pass before
none_run context main [] [] before none count = record { answers = []; ended = []; told = tt; meets = refl; all_are = sym (append-nil before) }
none_run context main (p ∷ passes) [] before none count = absurd (omega (arith, count))
none_run context main passes (steps ∷ threads) before none count = absurd (omega (arith, none))

-- main, the threads and the last section, one behind another
pub all_answered : (room : ℕ) (context : Shared) (script : Steps) (n : ℕ) (pass : Knowing) (passes : List Knowing) (objects : List Object) (after_main : Stage) (first all last total : List StepAnswer)
    (met : Knowing) (after_finally : Stage) → room_of context.order ≡ room → n ≡ length script.threads → AreNew context.order (n + 1) (pass ∷ passes) (n + 1) → objects ≡ []
    → AreTold context (record { objects = objects; pass = pass }) script.main first after_main → AreThreadsRun context after_main passes script.threads first met all
    → AreTold context (record { objects = after_main.objects; pass = met }) script.finally last after_finally → total ≡ all ++ last → AreAnswers room script total
all_answered room context script n pass passes objects after_main first all last total met after_finally room_is count new none main threads finally are = record {
  answers = record { main = first; threads = threads.answers; finally = last };
  run = record {
    context = context;
    room_is = room_is;
    pass = pass;
    passes = passes;
    new = subst (λ k. AreNew context.order (k + 1) (pass ∷ passes) (k + 1)) count new;
    after_main = after_main;
    main = subst (λ o. AreTold context (record { objects = o; pass = pass }) script.main first after_main) none main;
    ended = threads.ended;
    threads = threads.told;
    met = met;
    meets = threads.meets;
    after_finally = after_finally;
    finally = finally;
  };
  all_are = are ∙ ap (λ l. l ++ last) threads.all_are;
}

-- the passes of a script that was read, and what they have places for
pub seats_read : (room : ℕ) (text : List ℕ) (script : Script) → listed script ≡ sections_of text → room * (length script.threads.items + 1) ≡ seats_of room text
seats_read room text script is =
    ap (λ (n : ℕ). room * (n + 1)) (sym (length-map script.threads.items (λ commands. commands.items)) ∙ ap (λ (s : Sections). length s.threads) is)

pub seats_fit : (room : ℕ) (text : List ℕ) (script : Script) (n : ℕ) → n ≡ length script.threads.items → listed script ≡ sections_of text → room * (n + 1) ≤ MOST_SEATS → seats_of room text ≤ MOST_SEATS
seats_fit room text script n count is fits = subst (λ (k : ℕ). k ≤ MOST_SEATS) (ap (λ (k : ℕ). room * (k + 1)) count ∙ seats_read room text script is) fits

-- what is written where the sections are too many: nothing
pub crowded : (room : ℕ) (told : Option (List ℕ)) (files : Files) (text : List ℕ) (script : Script) (n : ℕ) (before after : Option (List ℕ)) → IsGiven told MAX_SCRIPT text
    → script_fault text ≡ None → n ≡ length script.threads.items → listed script ≡ sections_of text → after ≡ before → (fault : RunFault)
    → (fault ≡ run.TooManySections) × (MOST_SEATS < room * (n + 1)) → EndsWith room told files before after fault
crowded room told files text script n before after given none count is same fault why =
    subst (EndsWith room told files before after) (sym why.0)
    (record { text = text; given = given; faultless = none; crowded = subst (λ (k : ℕ). MOST_SEATS < k) (ap (λ (k : ℕ). room * (k + 1)) count ∙ seats_read room text script is) why.1 }, same)

-- what is written where the threads are stopped: nothing
pub stopped : (room : ℕ) (told : Option (List ℕ)) (files : Files) (text : List ℕ) (script : Steps) (before after : Option (List ℕ)) → IsGiven told MAX_SCRIPT text
    → script_fault text ≡ None → seats_of room text ≤ MOST_SEATS → AreScriptSteps files (sections_of text) script → after ≡ before → (fault : RunFault) → IsStopOf script.threads fault → EndsWith room told files before after fault
stopped room told files text script before after given none fits loaded same (run.Script line kind) is = absurd is
stopped room told files text script before after given none fits loaded same (run.Load line fault) is = absurd is
stopped room told files text script before after given none fits loaded same run.TooManySections is = absurd is
stopped room told files text script before after given none fits loaded same run.CannotReadScript is = absurd is
stopped room told files text script before after given none fits loaded same (run.CannotReadFile line) is = absurd is
stopped room told files text script before after given none fits loaded same run.ScriptTooLong is = absurd is
stopped room told files text script before after given none fits loaded same (run.FileTooLong line) is = absurd is
stopped room told files text script before after given none fits loaded same run.OutOfMemory is = same
stopped room told files text script before after given none fits loaded same run.NoThread is =
    (record { text = text; given = given; faultless = none; fits = fits; script = script; loaded = loaded; threaded = is }, same)
stopped room told files text script before after given none fits loaded same run.Panic is =
    (record { text = text; given = given; faultless = none; fits = fits; script = script; loaded = loaded; threaded = is }, same)
stopped room told files text script before after given none fits loaded same run.CannotWrite is = absurd is

-- what is written where the sink failed
pub began : (room : ℕ) (told : Option (List ℕ)) (files : Files) (text : List ℕ) (script : Steps) (all : List StepAnswer) (lines : List ℕ) (before after : Option (List ℕ))
    → IsGiven told MAX_SCRIPT text → script_fault text ≡ None → seats_of room text ≤ MOST_SEATS → AreScriptSteps files (sections_of text) script → AreAnswers room script all → lines ≡ flat_map reply_line all
    → AppendsBeginning before after lines → WroteBeginning room told files before after
began room told files text script all lines before after given none fits loaded are of_answers appended = record {
  text = text;
  given = given;
  faultless = none;
  fits = fits;
  script = script;
  loaded = loaded;
  answers = are.answers;
  run = are.run;
  alone = run_alone room script are.answers are.run;
  written = subst (λ l. AppendsBeginning before after (flat_map reply_line l)) are.all_are (subst (AppendsBeginning before after) of_answers appended);
}
