-- believed: What the loads of a script give (own): the file of each is read and checked, in the order of the script, before
-- anything runs.
use Rattle.std.specs.Prelude.{◌≡◌, ℕ, List, [], ◌∷◌, ◌++◌, Option, Some}
use Rattle.std.specs.List.{flat_map}
use Rattle.grb_market.specs.declared.fault.MarketFault.{MarketFault}
use Rattle.grb_market.specs.declared.loaded.Loaded.{Loaded}
use Rattle.grb_market.specs.Fault.{market_fault}
use Rattle.grb_market.specs.Loaded.{matrix_loaded}
use Rattle.grb_market.specs.Spells.{Spells}
use Rattle.grb_script.specs.declared.command.Command.{Command}
use Rattle.grb_script.specs.declared.command.Command.TheVariants as command
use Rattle.grb_script.specs.declared.command.NumberedCommand.{NumberedCommand}
use Rattle.grb_script.specs.Script.{Sections}
use Rattle.grb_run.specs.declared.fault.RunFault.{RunFault}
use Rattle.grb_run.specs.declared.fault.RunFault.TheVariants as run
use Rattle.grb_run.specs.declared.loads.Step.{Step}
use Rattle.grb_run.specs.declared.loads.Step.TheVariants as step
use Rattle.grb_run.specs.declared.source.TheConstants.{MAX_FILE}
use Rattle.grb_run.specs.declared.loads.ScriptSteps.{ScriptSteps}
use Rattle.grb_run.specs.Source.{IsGiven}

-- the bytes of the file of each path, where a source tells them
abbrev pub Files : Type 0
Files = List ℕ → Option (List ℕ)

-- a file was given, and it spells this matrix
pub record IsLoaded (told : Option (List ℕ)) (m : Loaded) : Type 0 where
  pub text : List ℕ
  pub given : IsGiven told MAX_FILE text
  pub spells : Spells text (matrix_loaded m)

-- a file was given, and its first fault is this
pub record IsFaulty (told : Option (List ℕ)) (fault : MarketFault) : Type 0 where
  pub text : List ℕ
  pub given : IsGiven told MAX_FILE text
  pub first : market_fault text ≡ Some fault

-- what a line asks for as a step: a statement as it is, and a load as the matrix of its file
abbrev pub IsStep : Files → Command → Step → Type 0
IsStep files (command.Statement s) (step.Statement t) = t ≡ s
IsStep files (command.Load path) (step.Load m) = IsLoaded (files path) m
IsStep files _ _ = ⊥

-- the same of line after line
abbrev pub AreSteps : Files → List NumberedCommand → List Step → Type 0
AreSteps files [] [] = Unit {0}
AreSteps files (line ∷ more) (s ∷ steps) = IsStep files line.command s × AreSteps files more steps
AreSteps files _ _ = ⊥

-- the matrices of loads before and after what a line asks for was read: a load gives one more
abbrev pub IsReadInto : Files → Command → List Loaded → List Loaded → Type 0
IsReadInto files (command.Statement s) before after = after ≡ before
IsReadInto files (command.Load path) before after = (m : Loaded) × IsLoaded (files path) m × (after ≡ before ++ m ∷ [])

-- the load on this line ends with this fault: its file has a fault, was not read, or is too long; or memory was refused
abbrev pub IsLoadFault : Option (List ℕ) → ℕ → RunFault → Type 0
IsLoadFault told line (run.Load at fault) = (at ≡ line) × IsFaulty told fault
IsLoadFault told line (run.CannotReadFile at) = at ≡ line
IsLoadFault told line (run.FileTooLong at) = at ≡ line
IsLoadFault told line run.OutOfMemory = Unit {0}
IsLoadFault told line _ = ⊥

-- what a line asks for ends with this fault, which a load alone does
abbrev pub IsStepFault : Files → ℕ → Command → RunFault → Type 0
IsStepFault files line (command.Load path) fault = IsLoadFault (files path) line fault
IsStepFault files line (command.Statement s) fault = ⊥

-- the first load of these lines that ends with a fault does so with this one: the file of each load before it spells a matrix
pub record StopsWith (files : Files) (commands : List NumberedCommand) (fault : RunFault) : Type 0 where
  pub before : List NumberedCommand
  pub load : NumberedCommand
  pub after : List NumberedCommand
  pub are : commands ≡ before ++ load ∷ after
  pub steps : List Step
  pub loaded : AreSteps files before steps
  pub stops : IsStepFault files load.line load.command fault

-- why not all lines are steps: the first load that ends with a fault, or want of memory
abbrev pub IsWhyNotLoaded : Files → List NumberedCommand → RunFault → Type 0
IsWhyNotLoaded files commands run.OutOfMemory = Unit {0}
IsWhyNotLoaded files commands fault = StopsWith files commands fault

-- the steps of a script, by section
pub record Steps : Type 0 where
  pub main : List Step
  pub threads : List (List Step)
  pub finally : List Step

abbrev pub steps_listed : ScriptSteps → Steps
steps_listed script = record { main = script.main; threads = script.threads.items; finally = script.finally }

-- what all sections of a script ask for, in the order of its text
abbrev pub all_of : Sections → List NumberedCommand
all_of script = script.main ++ flat_map (λ more. more) script.threads ++ script.finally

-- what thread sections ask for as steps
abbrev pub AreThreadSteps : Files → List (List NumberedCommand) → List (List Step) → Type 0
AreThreadSteps files [] [] = Unit {0}
AreThreadSteps files (lines ∷ threads) (steps ∷ more) = AreSteps files lines steps × AreThreadSteps files threads more
AreThreadSteps files _ _ = ⊥

-- the same of all sections of a script
pub record AreScriptSteps (files : Files) (lines : Sections) (script : Steps) : Type 0 where
  pub main : AreSteps files lines.main script.main
  pub threads : AreThreadSteps files lines.threads script.threads
  pub finally : AreSteps files lines.finally script.finally
