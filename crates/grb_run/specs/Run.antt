-- believed: What a run of a script leaves (own): what was written by how the run ended, and which faults of the source and the sink
-- it met.
use Rattle.std.specs.Prelude.{◌≡◌, ◌≢◌, ℕ, ◌+◌, ◌*◌, ◌<◌, ◌≤◌, length, ◌⊎◌, List, [], ◌++◌, All, Option, Some, None, Result, Ok, Err}
use Rattle.std.specs.List.{flat_map}
use Rattle.std.specs.Io.KnownBytes.{Appends}
use Rattle.grb_order.specs.declared.limits.TheConstants.{MOST_SEATS}
use Rattle.grb_words.specs.declared.fault.FaultKind.{FaultKind}
use Rattle.grb_run.specs.declared.fault.RunFault.{RunFault}
use Rattle.grb_run.specs.declared.fault.RunFault.TheVariants as run
use Rattle.grb_run.specs.declared.source.SourceFault.TheVariants as source
use Rattle.grb_run.specs.declared.source.TheConstants.{MAX_SCRIPT}
use Rattle.grb_script.specs.ScriptFault.{script_fault}
use Rattle.grb_script.specs.Script.{sections_of}
use Rattle.grb_run.specs.Loads.{Files, StopsWith, Steps, AreScriptSteps, all_of}
use Rattle.grb_run.specs.Printed.{IsRun, WasServed, printed, start}
use Rattle.grb_run.specs.Sections.{Answers, in_order, IsScriptRun}
use Rattle.grb_replies.specs.ReplyLine.{reply_line}
use Rattle.grb_market.specs.Sink.{AppendsBeginning}
use Rattle.grb_run.specs.Source.{FaultCounts, counted, IsGiven}

-- how many calls the passes of a script have places for, with room for so many each: main's pass, and one for each thread section
abbrev pub seats_of : ℕ → List ℕ → ℕ
seats_of room text = room * (length (sections_of text).threads + 1)

-- The file of each load of the script spells a matrix, the lines of the script's answers were written, and no byte more. Where the script
-- has no thread sections, they are those of main and the last section as one run, and where neither memory nor a record was refused, no
-- other text
pub record Wrote (room : ℕ) (files : Files) (text : List ℕ) (before after : Option (List ℕ)) : Type 0 where
  pub script : Steps
  pub loaded : AreScriptSteps files (sections_of text) script
  pub answers : Answers
  pub run : IsScriptRun room script answers
  pub alone : script.threads ≡ [] → IsRun room start (script.main ++ script.finally) (in_order answers)
  pub written : Appends before after (flat_map reply_line (in_order answers))
  pub exact : script.threads ≡ [] → All WasServed (in_order answers) → Appends before after (printed room (script.main ++ script.finally))

-- a script was given that has no fault, its sections are not too many for the room, and the lines of its answers were written
pub record WroteAll (room : ℕ) (told : Option (List ℕ)) (files : Files) (before after : Option (List ℕ)) : Type 0 where
  pub text : List ℕ
  pub given : IsGiven told MAX_SCRIPT text
  pub faultless : script_fault text ≡ None
  pub fits : seats_of room text ≤ MOST_SEATS
  pub lines : Wrote room files text before after

-- a script was given that has no fault, its sections are not too many for the room, the file of each of its loads spells a matrix, and a
-- beginning of the lines of its answers was written
pub record WroteBeginning (room : ℕ) (told : Option (List ℕ)) (files : Files) (before after : Option (List ℕ)) : Type 0 where
  pub text : List ℕ
  pub given : IsGiven told MAX_SCRIPT text
  pub faultless : script_fault text ≡ None
  pub fits : seats_of room text ≤ MOST_SEATS
  pub script : Steps
  pub loaded : AreScriptSteps files (sections_of text) script
  pub answers : Answers
  pub run : IsScriptRun room script answers
  pub alone : script.threads ≡ [] → IsRun room start (script.main ++ script.finally) (in_order answers)
  pub written : AppendsBeginning before after (flat_map reply_line (in_order answers))

-- a script was given whose first fault is this
pub record IsFirstFault (told : Option (List ℕ)) (line : ℕ) (kind : FaultKind) : Type 0 where
  pub text : List ℕ
  pub given : IsGiven told MAX_SCRIPT text
  pub fault : script_fault text ≡ Some (record { line = line; kind = kind })

-- a script was given that has no fault, and it has too many thread sections for so much room
pub record IsCrowded (room : ℕ) (told : Option (List ℕ)) : Type 0 where
  pub text : List ℕ
  pub given : IsGiven told MAX_SCRIPT text
  pub faultless : script_fault text ≡ None
  pub crowded : MOST_SEATS < seats_of room text

-- a script was given that has no fault, its sections are not too many for the room, and the first of its loads that ends with a fault does
-- so with this one
pub record StopsAtLoad (room : ℕ) (told : Option (List ℕ)) (files : Files) (fault : RunFault) : Type 0 where
  pub text : List ℕ
  pub given : IsGiven told MAX_SCRIPT text
  pub faultless : script_fault text ≡ None
  pub fits : seats_of room text ≤ MOST_SEATS
  pub stops : StopsWith files (all_of (sections_of text)) fault

-- a script was given that has no fault, its sections are not too many for the room, the file of each of its loads spells a matrix, and it
-- has thread sections
pub record IsThreaded (room : ℕ) (told : Option (List ℕ)) (files : Files) : Type 0 where
  pub text : List ℕ
  pub given : IsGiven told MAX_SCRIPT text
  pub faultless : script_fault text ≡ None
  pub fits : seats_of room text ≤ MOST_SEATS
  pub script : Steps
  pub loaded : AreScriptSteps files (sections_of text) script
  pub threaded : script.threads ≢ []

-- what a run that ended with this fault wrote: nothing, but where the sink failed
abbrev pub EndsWith : ℕ → Option (List ℕ) → Files → Option (List ℕ) → Option (List ℕ) → RunFault → Type 0
EndsWith room told files before after (run.Script line kind) = IsFirstFault told line kind × (after ≡ before)
EndsWith room told files before after (run.Load line fault) = StopsAtLoad room told files (run.Load line fault) × (after ≡ before)
EndsWith room told files before after run.TooManySections = IsCrowded room told × (after ≡ before)
EndsWith room told files before after run.CannotReadScript = after ≡ before
EndsWith room told files before after (run.CannotReadFile line) = StopsAtLoad room told files (run.CannotReadFile line) × (after ≡ before)
EndsWith room told files before after run.ScriptTooLong = after ≡ before
EndsWith room told files before after (run.FileTooLong line) = StopsAtLoad room told files (run.FileTooLong line) × (after ≡ before)
EndsWith room told files before after run.OutOfMemory = after ≡ before
EndsWith room told files before after run.NoThread = IsThreaded room told files × (after ≡ before)
EndsWith room told files before after run.Panic = IsThreaded room told files × (after ≡ before)
EndsWith room told files before after run.CannotWrite = WroteBeginning room told files before after

-- how often the sink has failed behind a run: once more where it could not write, and no more where it did not
abbrev pub sink_failures_after : ℕ → Result (Unit {0}) RunFault → ℕ
sink_failures_after failures (Err run.CannotWrite) = failures + 1
sink_failures_after failures _ = failures

-- how often the faults of the source came where this fault ended a run: each as often as before, but one more of the fault that ended
-- it. Where memory was refused, it may have been refused to the source or not
abbrev pub MetFault : FaultCounts → RunFault → FaultCounts → Type 0
MetFault old run.CannotReadScript new = new ≡ counted old source.CannotRead
MetFault old (run.CannotReadFile line) new = new ≡ counted old source.CannotRead
MetFault old run.ScriptTooLong new = new ≡ counted old source.TooLong
MetFault old (run.FileTooLong line) new = new ≡ counted old source.TooLong
MetFault old run.OutOfMemory new = (new ≡ old) ⊎ (new ≡ counted old source.OutOfMemory)
MetFault old _ new = new ≡ old

-- the same behind a run, or a part of one
abbrev pub MetFaults : {X : Type 0} → FaultCounts → Result X RunFault → FaultCounts → Type 0
MetFaults old (Ok x) new = new ≡ old
MetFaults old (Err fault) new = MetFault old fault new
