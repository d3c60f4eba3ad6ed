-- What a run that wrote its lines shows.
use Rattle.std.proofs.Common.{◌≡◌, ℕ, List, ◌++◌, subst}
use Rattle.std.specs.Prelude.{Option}
use Rattle.grb_run.proofs.Prelude.{flat_map, StepAnswer, reply_line, sections_of, Files, Steps, AreScriptSteps, start, Wrote, AreAnswers, in_order}
use Rattle.std.specs.Io.KnownBytes.{Appends}
use Rattle.grb_run.proofs.Runs.{IsRun-served}
use Rattle.grb_run.proofs.ScriptRuns.{run_alone}

pub wrote : (room : ℕ) (files : Files) (text : List ℕ) (before after : Option (List ℕ)) (script : Steps) (all : List StepAnswer) (lines : List ℕ)
    → AreScriptSteps files (sections_of text) script → AreAnswers room script all → lines ≡ flat_map reply_line all → Appends before after lines
    → Wrote room files text before after
wrote room files text before after script all lines loaded are of_answers appended =
    let written : Appends before after (flat_map reply_line (in_order are.answers)) =
    subst (λ l. Appends before after (flat_map reply_line l)) are.all_are (subst (Appends before after) of_answers appended) in
    record {
      script = script;
      loaded = loaded;
      answers = are.answers;
      run = are.run;
      alone = run_alone room script are.answers are.run;
      written = written;
      exact = λ none had.
          subst (λ answers. Appends before after (flat_map reply_line answers))
          (IsRun-served room start (script.main ++ script.finally) (in_order are.answers) had (run_alone room script are.answers are.run none)) written;
    }
