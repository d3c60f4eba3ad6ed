-- believed: What a script asks for (own): one command for each line that is not skipped, says no version and begins no section, with
-- the number of the line and the numbers of its names; the commands of main, of each thread section and of 'finally'.
use Rattle.std.specs.Prelude.{ℕ, ◌+◌, not, List, [], ◌∷◌, ◌++◌, Option, Some, None, length, map, is_some}
use Rattle.std.specs.List.{flat_map, take_while}
use Rattle.grb_script.specs.declared.command.NumberedCommand.{NumberedCommand}
use Rattle.grb_script.specs.declared.script.Script.{Script}
use Rattle.grb_words.specs.declared.section.Section.{Section}
use Rattle.grb_words.specs.declared.section.Section.TheVariants as section
use Rattle.grb_words.specs.declared.version.Version.{Version}
use Rattle.grb_market.specs.Line.{Line, lines_of}
use Rattle.grb_script.specs.Command.{commands_on}
use Rattle.grb_script.specs.Names.{Name}
use Rattle.grb_script.specs.Scope.{section_on, scope_of}

-- each line, behind the lines before it
abbrev pub with_before : List Line → List Line → List (List Line × Line)
with_before before [] = []
with_before before (line ∷ more) = (before, line) ∷ with_before (before ++ line ∷ []) more

-- what the line of this number asks for, if it asks for something
abbrev pub numbered_on : ℕ → Option Version → List Name → Line → List NumberedCommand
numbered_on number settled names line = map (λ c. record { line = number; command = c }) (commands_on settled names line)

-- what a line asks for behind the lines before it, which count from 1
abbrev pub line_commands : List Line × Line → List NumberedCommand
line_commands p = numbered_on (length p.0 + 1) (scope_of p.0).version (scope_of p.0).names p.1

-- what lines ask for, up to the first that begins a section
abbrev pub section_commands : List (List Line × Line) → List NumberedCommand
section_commands lines = flat_map line_commands (take_while (λ p. not (is_some (section_on p.1))) lines)

-- this, if it is asked for in a thread section, or in 'finally'
abbrev pub thread_part : Option Section → List NumberedCommand → List (List NumberedCommand)
thread_part (Some (section.Thread k)) commands = commands ∷ []
thread_part (Some section.Finally) commands = []
thread_part None commands = []

abbrev pub finally_part : Option Section → List NumberedCommand → List NumberedCommand
finally_part (Some (section.Thread k)) commands = []
finally_part (Some section.Finally) commands = commands
finally_part None commands = []

-- what each thread section of these lines asks for, in their order
abbrev pub threads_in : List (List Line × Line) → List (List NumberedCommand)
threads_in [] = []
threads_in (p ∷ more) = thread_part (section_on p.1) (section_commands more) ++ threads_in more

-- what stands behind 'finally' in these lines asks for
abbrev pub finally_in : List (List Line × Line) → List NumberedCommand
finally_in [] = []
finally_in (p ∷ more) = finally_part (section_on p.1) (section_commands more) ++ finally_in more

-- what a script asks for, by its sections
pub record Sections : Type 0 where
  pub main : List NumberedCommand
  pub threads : List (List NumberedCommand)
  pub finally : List NumberedCommand

-- where nothing is asked for
abbrev pub nothing : Sections
nothing = record { main = []; threads = []; finally = [] }

-- what these lines ask for, the first of which stands in main
abbrev pub sections_in : List (List Line × Line) → Sections
sections_in lines = record { main = section_commands lines; threads = threads_in lines; finally = finally_in lines }

-- what a text asks for
abbrev pub sections_of : List ℕ → Sections
sections_of text = sections_in (with_before [] (lines_of text))

-- a script as it is read, by its lists
abbrev pub listed : Script → Sections
listed script = record { main = script.main.items; threads = map (λ commands. commands.items) script.threads.items; finally = script.finally.items }

-- what one section asks for, or main, as a part of a script
abbrev pub main_part : Option Section → List NumberedCommand → List NumberedCommand
main_part None commands = commands
main_part (Some section) commands = []

abbrev pub part_of : Option Section → List NumberedCommand → Sections
part_of section commands = record { main = main_part section commands; threads = thread_part section commands; finally = finally_part section commands }

-- what two parts ask for, the second behind the first
abbrev pub joined : Sections → Sections → Sections
joined one other = record { main = one.main ++ other.main; threads = one.threads ++ other.threads; finally = one.finally ++ other.finally }
