-- inside: no public contract names it. What the words of a line say that is not faulty (own): that a section begins, a command, or
-- nothing.
use Rattle.std.specs.Prelude.{◌≡◌, ℕ, true, List, [], ◌∷◌, ◌++◌, Option, Some, None}
use Rattle.grb_script.specs.declared.command.NumberedCommand.{NumberedCommand}
use Rattle.grb_words.specs.declared.section.Section.{Section}
use Rattle.grb_script.specs.declared.line.LineMeaning.{LineMeaning}
use Rattle.grb_script.specs.declared.line.LineMeaning.TheVariants as meaning
use Rattle.grb_words.specs.declared.fault.Unread.{Unread}
use Rattle.grb_words.specs.declared.fault.Unread.TheVariants as unread
use Rattle.grb_words.specs.Line.{Word}
use Rattle.grb_words.specs.Section.{section_of}
use Rattle.grb_script.specs.Command.{commands_in}
use Rattle.grb_script.specs.Scope.{Scope, may_follow, scope_behind_words}
use Rattle.grb_script.specs.Script.{Sections, joined, part_of}
use Rattle.grb_script.specs.ScriptFault.{wording_fault}
use Rattle.grb_script.specs.Version.{version_by}

-- what words say that stand here
abbrev pub Says : Scope → List Word → Option LineMeaning → Type 0
Says scope words None = (section_of words ≡ None) × (commands_in scope.version scope.names words ≡ [])
Says scope words (Some (meaning.Section section)) = (section_of words ≡ Some section) × (may_follow (version_by scope.version words) scope.section section ≡ true)
Says scope words (Some (meaning.Command command)) = (section_of words ≡ None) × (commands_in scope.version scope.names words ≡ command ∷ [])

-- these words have no fault, and say this; and where the next line stands
pub record IsRead (scope : Scope) (words : List Word) (meaning : Option LineMeaning) (after : Scope) : Type 0 where
  pub faultless : wording_fault scope words ≡ None
  pub says : Says scope words meaning
  pub behind : after ≡ scope_behind_words scope words

-- why words are not read: this is wrong with them, or memory was refused
abbrev pub IsWhyNotRead : Scope → List Word → Unread → Type 0
IsWhyNotRead scope words (unread.Fault kind) = wording_fault scope words ≡ Some kind
IsWhyNotRead scope words unread.OutOfMemory = Unit {0}

-- what a script and its section ask for (the section's part apart) before and after a line of this number said this
abbrev pub IsTaken : ℕ → Option Section → Option LineMeaning → Sections → List NumberedCommand → Sections → List NumberedCommand → Type 0
IsTaken number section None script commands script_after commands_after = (script_after ≡ script) × (commands_after ≡ commands)
IsTaken number section (Some (meaning.Section next)) script commands script_after commands_after = (script_after ≡ joined script (part_of section commands)) × (commands_after ≡ [])
IsTaken number section (Some (meaning.Command command)) script commands script_after commands_after =
    (script_after ≡ script) × (commands_after ≡ commands ++ record { line = number; command = command } ∷ [])

-- the same before and after a line of this number with these words, which was read and taken
pub record IsLineTaken (number : ℕ) (scope : Scope) (words : List Word) (script : Sections) (commands : List NumberedCommand) (scope_after : Scope) (script_after : Sections) (commands_after : List NumberedCommand) : Type 0 where
  pub meaning : Option LineMeaning
  pub read : IsRead scope words meaning scope_after
  pub taken : IsTaken number scope.section meaning script commands script_after commands_after
