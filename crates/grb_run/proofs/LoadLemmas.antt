-- Steps of lines, one more at their end, and a load that ends with a fault.
use Rattle.std.proofs.Common.{◌≡◌, ◌≤◌, ℕ, List, [], ◌∷◌, ◌++◌, length, refl, sym, ap, ◌∙◌, subst, append_assoc, append-nil, arith}
use Rattle.grb_run.proofs.Prelude.{flat_map, flat_map-append, length_push, MOST_SEATS, NumberedCommand, script_fault, RunFault, Step, Files, IsStep, AreSteps, IsReadInto, IsStepFault, StopsWith, IsWhyNotLoaded, AreThreadSteps, Steps, AreScriptSteps, all_of, commands_of, loads_among, steps_with, Loaded, Sections, sections_of, EndsWith, seats_of}
use Rattle.std.specs.Prelude.{Option, None}
use Rattle.grb_script.specs.declared.command.Command.{Command}
use Rattle.grb_script.specs.declared.command.Command.TheVariants as command
use Rattle.grb_words.specs.declared.fault.FaultKind.{FaultKind}
use Rattle.grb_run.specs.declared.fault.RunFault.TheVariants as run
use Rattle.grb_run.specs.declared.source.TheConstants.{MAX_SCRIPT}
use Rattle.grb_run.proofs.SectionSteps.{commands_of-push, loads_among-append, steps_with-statement, steps_with-load}
use Rattle.grb_run.specs.declared.loads.Step.TheVariants as step
use Rattle.grb_run.specs.Source.{IsGiven}

module _ (files : Files) where
  pub AreSteps-push : (before : List NumberedCommand) (steps : List Step) (line : NumberedCommand) (s : Step) → AreSteps files before steps → IsStep files line.command s
      → AreSteps files (before ++ line ∷ []) (steps ++ s ∷ [])
  AreSteps-push [] [] line s are is = (is, tt)
  AreSteps-push [] (t ∷ steps) line s are is = absurd are
  AreSteps-push (first ∷ before) [] line s are is = absurd are
  AreSteps-push (first ∷ before) (t ∷ steps) line s are is = (are.0, AreSteps-push before steps line s are.1 is)

  -- the step of one line more
  read_step : (before : List Command) (c : Command) (old new : List Loaded) → length old ≡ loads_among before → IsReadInto files c old new
      → (s : Step) × IsStep files c s × (steps_with (before ++ c ∷ []) new ≡ steps_with before old ++ s ∷ []) × (length new ≡ loads_among (before ++ c ∷ []))
  read_step before (command.Statement s) old new count same = (
    step.Statement s,
    refl,
    ap (steps_with (before ++ command.Statement s ∷ [])) same ∙ steps_with-statement before s old count,
    omega (arith, ap length same, count, loads_among-append before (command.Statement s ∷ [])),
  )
  read_step before (command.Load path) old new count more = (
    step.Load more.0,
    more.1,
    ap (steps_with (before ++ command.Load path ∷ [])) more.2 ∙ steps_with-load before path old more.0 count,
    omega (arith, ap length more.2, length_push old more.0, count, loads_among-append before (command.Load path ∷ [])),
  )

  pub AreSteps-read : (before : List NumberedCommand) (line : NumberedCommand) (old new : List Loaded) → AreSteps files before (steps_with (commands_of before) old)
      → length old ≡ loads_among (commands_of before) → IsReadInto files line.command old new
      → AreSteps files (before ++ line ∷ []) (steps_with (commands_of (before ++ line ∷ [])) new) × (length new ≡ loads_among (commands_of (before ++ line ∷ [])))
  AreSteps-read before line old new are count read =
      let it = read_step (commands_of before) line.command old new count read in (
        subst (AreSteps files (before ++ line ∷ [])) (sym (ap (λ cs. steps_with cs new) (commands_of-push before line) ∙ it.2))
            (AreSteps-push before (steps_with (commands_of before) old) line it.0 are it.1),
        it.3 ∙ ap loads_among (sym (commands_of-push before line)),
      )

  AreSteps-append : (fs bs : List NumberedCommand) (xs ys : List Step) → AreSteps files fs xs → AreSteps files bs ys → AreSteps files (fs ++ bs) (xs ++ ys)
  AreSteps-append [] bs [] ys first second = second
  AreSteps-append [] bs (x ∷ xs) ys first second = absurd first
  AreSteps-append (a ∷ fs) bs [] ys first second = absurd first
  AreSteps-append (a ∷ fs) bs (x ∷ xs) ys first second = (first.0, AreSteps-append fs bs xs ys first.1 second)

  pub AreThreadSteps-push : (before : List (List NumberedCommand)) (all : List (List Step)) (lines : List NumberedCommand) (steps : List Step) → AreThreadSteps files before all
      → AreSteps files lines steps → AreThreadSteps files (before ++ lines ∷ []) (all ++ steps ∷ [])
  AreThreadSteps-push [] [] lines steps are is = (is, tt)
  AreThreadSteps-push [] (t ∷ all) lines steps are is = absurd are
  AreThreadSteps-push (first ∷ before) [] lines steps are is = absurd are
  AreThreadSteps-push (first ∷ before) (t ∷ all) lines steps are is = (are.0, AreThreadSteps-push before all lines steps are.1 is)

  pub length-AreThreadSteps : (threads : List (List NumberedCommand)) (all : List (List Step)) → AreThreadSteps files threads all → length all ≡ length threads
  length-AreThreadSteps [] [] are = refl
  length-AreThreadSteps [] (t ∷ all) are = absurd are
  length-AreThreadSteps (lines ∷ threads) [] are = absurd are
  length-AreThreadSteps (lines ∷ threads) (t ∷ all) are = omega (arith, length-AreThreadSteps threads all are.1)

  -- the steps of thread sections, one behind another
  flat_steps : (threads : List (List NumberedCommand)) (all : List (List Step)) → AreThreadSteps files threads all
      → AreSteps files (flat_map (λ (more : List NumberedCommand). more) threads) (flat_map (λ (more : List Step). more) all)
  flat_steps [] [] are = tt
  flat_steps [] (t ∷ all) are = absurd are
  flat_steps (lines ∷ threads) [] are = absurd are
  flat_steps (lines ∷ threads) (t ∷ all) are = AreSteps-append lines (flat_map (λ (more : List NumberedCommand). more) threads) t (flat_map (λ (more : List Step). more) all) are.0 (flat_steps threads all are.1)

  pub why_not : (commands : List NumberedCommand) (fault : RunFault) → StopsWith files commands fault → IsWhyNotLoaded files commands fault
  why_not commands run.OutOfMemory stops = tt
  why_not commands _ stops = stops

  -- what stops some lines stops those around them too
  stops_more : (fs bs cs : List NumberedCommand) (xs : List Step) (fault : RunFault) → AreSteps files fs xs → StopsWith files bs fault → StopsWith files (fs ++ bs ++ cs) fault
  stops_more fs bs cs xs fault loaded stops = record {
    before = fs ++ stops.before;
    load = stops.load;
    after = stops.after ++ cs;
    are =
        ap (λ l. (fs ++ l) ++ cs) stops.are ∙ append_assoc fs (stops.before ++ (stops.load ∷ stops.after)) cs
        ∙ ap (λ l. fs ++ l) (append_assoc stops.before (stops.load ∷ stops.after) cs) ∙ sym (append_assoc fs stops.before ((stops.load ∷ stops.after) ++ cs));
    steps = xs ++ stops.steps;
    loaded = AreSteps-append fs stops.before xs stops.steps loaded stops.loaded;
    stops = stops.stops;
  }

  pub why_more : (fs bs cs : List NumberedCommand) (xs : List Step) (fault : RunFault) → AreSteps files fs xs → IsWhyNotLoaded files bs fault
      → IsWhyNotLoaded files (fs ++ bs ++ cs) fault
  why_more fs bs cs xs (run.Script line kind) loaded why = stops_more fs bs cs xs (run.Script line kind) loaded why
  why_more fs bs cs xs (run.Load line fault) loaded why = stops_more fs bs cs xs (run.Load line fault) loaded why
  why_more fs bs cs xs run.TooManySections loaded why = stops_more fs bs cs xs run.TooManySections loaded why
  why_more fs bs cs xs run.CannotReadScript loaded why = stops_more fs bs cs xs run.CannotReadScript loaded why
  why_more fs bs cs xs (run.CannotReadFile line) loaded why = stops_more fs bs cs xs (run.CannotReadFile line) loaded why
  why_more fs bs cs xs run.ScriptTooLong loaded why = stops_more fs bs cs xs run.ScriptTooLong loaded why
  why_more fs bs cs xs (run.FileTooLong line) loaded why = stops_more fs bs cs xs (run.FileTooLong line) loaded why
  why_more fs bs cs xs run.OutOfMemory loaded why = tt
  why_more fs bs cs xs run.NoThread loaded why = stops_more fs bs cs xs run.NoThread loaded why
  why_more fs bs cs xs run.Panic loaded why = stops_more fs bs cs xs run.Panic loaded why
  why_more fs bs cs xs run.CannotWrite loaded why = stops_more fs bs cs xs run.CannotWrite loaded why

  -- the same of the first, the next and the last of three parts
  pub why_main : (fs bs : List NumberedCommand) (fault : RunFault) → IsWhyNotLoaded files fs fault → IsWhyNotLoaded files (fs ++ bs) fault
  why_main fs bs fault why = why_more [] fs bs [] fault tt why

  pub why_threads : (fs : List NumberedCommand) (threads : List (List NumberedCommand)) (cs : List NumberedCommand) (xs : List Step) (fault : RunFault) → AreSteps files fs xs
      → IsWhyNotLoaded files (flat_map (λ (more : List NumberedCommand). more) threads) fault → IsWhyNotLoaded files (fs ++ flat_map (λ (more : List NumberedCommand). more) threads ++ cs) fault
  why_threads fs threads cs xs fault loaded why = why_more fs (flat_map (λ (more : List NumberedCommand). more) threads) cs xs fault loaded why

  pub why_last : (fs : List NumberedCommand) (threads : List (List NumberedCommand)) (cs : List NumberedCommand) (xs : List Step) (all : List (List Step)) (fault : RunFault) → AreSteps files fs xs
      → AreThreadSteps files threads all → IsWhyNotLoaded files cs fault → IsWhyNotLoaded files (fs ++ flat_map (λ (more : List NumberedCommand). more) threads ++ cs) fault
  why_last fs threads cs xs all fault loaded others why =
      let flat : List NumberedCommand = flat_map (λ (more : List NumberedCommand). more) threads in
      subst (λ l. IsWhyNotLoaded files l fault) (append-nil ((fs ++ flat) ++ cs))
      (why_more (fs ++ flat) cs [] (xs ++ flat_map (λ (more : List Step). more) all) fault
      (AreSteps-append fs flat xs (flat_map (λ (more : List Step). more) all) loaded (flat_steps threads all others)) why)

  -- the same of one thread section among others
  pub why_one : (before : List (List NumberedCommand)) (lines : List NumberedCommand) (rest all : List (List NumberedCommand)) (steps : List (List Step)) (fault : RunFault) → all ≡ before ++ lines ∷ rest
      → AreThreadSteps files before steps → IsWhyNotLoaded files lines fault → IsWhyNotLoaded files (flat_map (λ (more : List NumberedCommand). more) all) fault
  why_one before lines rest all steps fault are loaded why =
      subst (λ l. IsWhyNotLoaded files l fault)
      (append_assoc (flat_map (λ (more : List NumberedCommand). more) before) lines (flat_map (λ (more : List NumberedCommand). more) rest)
      ∙ sym (flat_map-append (λ (more : List NumberedCommand). more) before (lines ∷ rest)) ∙ ap (λ l. flat_map (λ (more : List NumberedCommand). more) l) (sym are))
      (why_more (flat_map (λ (more : List NumberedCommand). more) before) lines (flat_map (λ (more : List NumberedCommand). more) rest) (flat_map (λ (more : List Step). more) steps) fault
      (flat_steps before steps loaded) why)

  module _ (now : Files) where
    -- what is known of files that are told alike
    pub IsReadInto-of : (c : Command) (old new : List Loaded) → ((path : List ℕ) → now path ≡ files path) → IsReadInto now c old new → IsReadInto files c old new
    IsReadInto-of c old new same is = subst (λ f. IsReadInto f c old new) (λ j path. same path j) is

    pub AreSteps-of : (commands there : List NumberedCommand) (steps : List Step) → ((path : List ℕ) → now path ≡ files path) → there ≡ commands → AreSteps now there steps → AreSteps files commands steps
    AreSteps-of commands there steps same are loaded = subst (λ f. AreSteps f commands steps) (λ j path. same path j) (subst (λ cs. AreSteps now cs steps) are loaded)

    pub AreThreadSteps-of : (threads : List (List NumberedCommand)) (all : List (List Step)) → ((path : List ℕ) → now path ≡ files path) → AreThreadSteps now threads all → AreThreadSteps files threads all
    AreThreadSteps-of threads all same loaded = subst (λ f. AreThreadSteps f threads all) (λ j path. same path j) loaded

    pub AreScriptSteps-of : (lines there : Sections) (script : Steps) → ((path : List ℕ) → now path ≡ files path) → there ≡ lines → AreScriptSteps now there script → AreScriptSteps files lines script
    AreScriptSteps-of lines there script same are loaded = subst (λ f. AreScriptSteps f lines script) (λ j path. same path j) (subst (λ a. AreScriptSteps now a script) are loaded)

    pub IsWhyNotLoaded-of : (commands there : List NumberedCommand) (fault : RunFault) → ((path : List ℕ) → now path ≡ files path) → there ≡ commands → IsWhyNotLoaded now there fault
        → IsWhyNotLoaded files commands fault
    IsWhyNotLoaded-of commands there fault same are why =
        subst (λ f. IsWhyNotLoaded f commands fault) (λ j path. same path j) (subst (λ cs. IsWhyNotLoaded now cs fault) are why)

    -- a load that ends with a fault behind those that do not
    pub StopsWith-of : (before : List NumberedCommand) (load : NumberedCommand) (after commands : List NumberedCommand) (steps : List Step) (fault : RunFault) → commands ≡ before ++ load ∷ after
        → AreSteps files before steps → ((path : List ℕ) → now path ≡ files path) → IsStepFault now load.line load.command fault → IsWhyNotLoaded files commands fault
    StopsWith-of before load after commands steps fault are loaded same stops =
        why_not commands fault (record {
          before = before;
          load = load;
          after = after;
          are = are;
          steps = steps;
          loaded = loaded;
          stops = subst (λ f. IsStepFault f load.line load.command fault) (λ j path. same path j) stops;
        })

  -- no load ends with a fault of the script or of the sink
  no_script_fault : (at line : ℕ) (kind : FaultKind) (c : Command) → IsStepFault files at c (run.Script line kind) → ⊥
  no_script_fault at line kind (command.Statement s) stops = stops
  no_script_fault at line kind (command.Load path) stops = stops

  no_crowd : (at : ℕ) (c : Command) → IsStepFault files at c run.TooManySections → ⊥
  no_crowd at (command.Statement s) stops = stops
  no_crowd at (command.Load path) stops = stops

  no_sink_fault : (at : ℕ) (c : Command) → IsStepFault files at c run.CannotWrite → ⊥
  no_sink_fault at (command.Statement s) stops = stops
  no_sink_fault at (command.Load path) stops = stops

  no_thread_fault : (at : ℕ) (c : Command) → IsStepFault files at c run.NoThread → ⊥
  no_thread_fault at (command.Statement s) stops = stops
  no_thread_fault at (command.Load path) stops = stops

  no_panic_fault : (at : ℕ) (c : Command) → IsStepFault files at c run.Panic → ⊥
  no_panic_fault at (command.Statement s) stops = stops
  no_panic_fault at (command.Load path) stops = stops

  -- what is written where a load ends with a fault: nothing
  pub ends : (room : ℕ) (told : Option (List ℕ)) (text : List ℕ) (before after : Option (List ℕ)) → IsGiven told MAX_SCRIPT text → script_fault text ≡ None → seats_of room text ≤ MOST_SEATS → after ≡ before
      → (fault : RunFault) → IsWhyNotLoaded files (all_of (sections_of text)) fault → EndsWith room told files before after fault
  ends room told text before after given none fits same (run.Script line kind) why = absurd (no_script_fault why.load.line line kind why.load.command why.stops)
  ends room told text before after given none fits same (run.Load line fault) why = (record { text = text; given = given; faultless = none; fits = fits; stops = why }, same)
  ends room told text before after given none fits same run.TooManySections why = absurd (no_crowd why.load.line why.load.command why.stops)
  ends room told text before after given none fits same run.CannotReadScript why = same
  ends room told text before after given none fits same (run.CannotReadFile line) why = (record { text = text; given = given; faultless = none; fits = fits; stops = why }, same)
  ends room told text before after given none fits same run.ScriptTooLong why = same
  ends room told text before after given none fits same (run.FileTooLong line) why = (record { text = text; given = given; faultless = none; fits = fits; stops = why }, same)
  ends room told text before after given none fits same run.OutOfMemory why = same
  ends room told text before after given none fits same run.NoThread why = absurd (no_thread_fault why.load.line why.load.command why.stops)
  ends room told text before after given none fits same run.Panic why = absurd (no_panic_fault why.load.line why.load.command why.stops)
  ends room told text before after given none fits same run.CannotWrite why = absurd (no_sink_fault why.load.line why.load.command why.stops)
