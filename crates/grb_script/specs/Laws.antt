-- believed: What a reader of the definitions of scripts relies on, as laws about these.
use Rattle.std.specs.Prelude.{◌≡◌, ℕ, ◌+◌, List, [], ◌∷◌, ◌++◌, Option, Some, None, length}
use Rattle.std.specs.List.{flat_map}
use Rattle.grb_script.specs.declared.command.NumberedCommand.{NumberedCommand}
use Rattle.grb_words.specs.declared.version.Version.{Version}
use Rattle.grb_market.specs.Line.{Line, lines_of}
use Rattle.grb_words.specs.Line.{words_of}
use Rattle.grb_script.specs.Command.{names_behind_words}
use Rattle.grb_script.specs.Names.{Name}
use Rattle.grb_script.specs.Script.{with_before, numbered_on, sections_of}
use Rattle.grb_script.specs.ScriptFault.{script_fault}
use Rattle.grb_script.specs.Version.{version_by}

-- the version that is settled behind these lines, where this one was before them: the first line settles it, and no other changes it
abbrev pub version_behind_lines : Option Version → List Line → Option Version
version_behind_lines settled [] = settled
version_behind_lines settled (line ∷ more) = Some (version_by settled (words_of line.bytes))

-- the names that stand behind these lines, where these stood before, this version was settled and no section begins
abbrev pub names_behind_lines : Option Version → List Name → List Line → List Name
names_behind_lines settled names [] = names
names_behind_lines settled names (line ∷ more) =
    names_behind_lines (version_behind_lines settled (line ∷ [])) (names_behind_words settled names (words_of line.bytes)) more

-- what a text asks for as one list of lines, in which a line that begins a section asks for nothing
abbrev pub commands_of : List ℕ → List NumberedCommand
commands_of text =
    flat_map (λ p. numbered_on (length p.0 + 1) (version_behind_lines None p.0) (names_behind_lines None [] p.0) p.1) (with_before [] (lines_of text))

-- a text without a fault and without thread sections asks in main and 'finally' for what it asks for as one list of lines
abbrev pub WithoutThreadsAreLines : Type 0
WithoutThreadsAreLines = (text : List ℕ) → script_fault text ≡ None → (sections_of text).threads ≡ [] → (sections_of text).main ++ (sections_of text).finally ≡ commands_of text
