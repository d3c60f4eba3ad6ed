-- inside: no public contract names it. The steps of a section (own), by what its lines ask for and by the matrices of its loads.
use Rattle.std.specs.Prelude.{ℕ, ◌+◌, List, [], ◌∷◌, map}
use Rattle.grb_market.specs.declared.loaded.Loaded.{Loaded}
use Rattle.grb_script.specs.declared.command.Command.{Command}
use Rattle.grb_script.specs.declared.command.Command.TheVariants as command
use Rattle.grb_script.specs.declared.command.NumberedCommand.{NumberedCommand}
use Rattle.grb_run.specs.declared.loads.Step.{Step}
use Rattle.grb_run.specs.declared.loads.Step.TheVariants as step

-- what lines ask for, without their numbers
abbrev pub commands_of : List NumberedCommand → List Command
commands_of lines = map (λ line. line.command) lines

-- how many of these load a file
abbrev pub loads_among : List Command → ℕ
loads_among [] = 0
loads_among (command.Statement s ∷ more) = loads_among more
loads_among (command.Load path ∷ more) = loads_among more + 1

-- these as steps, where the loads give these matrices, one after another
abbrev pub steps_with : List Command → List Loaded → List Step
steps_with [] loads = []
steps_with (command.Statement s ∷ more) loads = step.Statement s ∷ steps_with more loads
steps_with (command.Load path ∷ more) [] = []
steps_with (command.Load path ∷ more) (m ∷ loads) = step.Load m ∷ steps_with more loads
