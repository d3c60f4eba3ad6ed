-- believed: The first fault of a script (own): of the lines in order the first that is faulty, and of its faults the first of this
-- order: an unended line, a bad byte, a section, a statement, a name taken, an unknown name, a wrong kind, a semiring.
use Rattle.std.specs.Prelude.{◌≡◌, ℕ, ◌+◌, not, if◌then◌else◌, List, [], ◌∷◌, Option, Some, None}
use Rattle.std.specs.Option.{option_map_or}
use Rattle.std.specs.Result.{result_err}
use Rattle.grb_words.specs.declared.fault.FaultKind.{FaultKind}
use Rattle.grb_words.specs.declared.fault.FaultKind.TheVariants.{UnendedLine, BadByte, Section as SectionFault}
use Rattle.grb_script.specs.declared.fault.ScriptFault.{ScriptFault}
use Rattle.grb_script.specs.declared.fault.ReadFault.{ReadFault}
use Rattle.grb_script.specs.declared.fault.ReadFault.TheVariants as read
use Rattle.grb_words.specs.declared.fault.Unread.{Unread}
use Rattle.grb_words.specs.declared.fault.Unread.TheVariants as unread
use Rattle.grb_words.specs.declared.version.Version.{Version}
use Rattle.grb_market.specs.Line.{Line, lines_of}
use Rattle.grb_words.specs.Line.{Word, words_of, has_allowed_bytes, is_section}
use Rattle.grb_words.specs.Section.{section_of}
use Rattle.grb_words.specs.declared.section.Section.{Section}
use Rattle.grb_script.specs.Command.{asking}
use Rattle.grb_script.specs.Scope.{Scope, may_follow, scope_of}
use Rattle.grb_script.specs.Script.{with_before}
use Rattle.grb_script.specs.Version.{version_by, says_nothing}

-- what is wrong with words that begin with a word of sections: they must spell a section that may follow the one where they stand
abbrev pub section_fault : Version → Option Section → Option Section → Option FaultKind
section_fault version here None = Some SectionFault
section_fault version here (Some next) = if may_follow version here next then None else Some SectionFault

-- what is wrong with words that say something in a script of this version
abbrev pub saying_fault : Version → Scope → List Word → Option FaultKind
saying_fault version scope words =
    if is_section words then section_fault version scope.section (section_of words) else result_err (asking version scope.names words)

-- what is wrong with the words of a line
abbrev pub wording_fault : Scope → List Word → Option FaultKind
wording_fault scope words = if says_nothing scope.version words then None else saying_fault (version_by scope.version words) scope words

-- what is wrong with a line that stands here
abbrev pub line_fault : Scope → Line → Option FaultKind
line_fault scope line =
    if not line.is_ended then Some UnendedLine
    else (if not (has_allowed_bytes line.bytes) then Some BadByte
    else wording_fault scope (words_of line.bytes))

-- why the line of this number that stands here is not read: it has this fault, or memory was refused
abbrev pub IsWhyLineUnread : ℕ → Scope → Line → ReadFault → Type 0
IsWhyLineUnread number scope line (read.Fault f) = (f.line ≡ number) × (line_fault scope line ≡ Some f.kind)
IsWhyLineUnread number scope line read.OutOfMemory = Unit {0}

-- the same by why the words of that line are not read
abbrev pub fault_at : ℕ → Unread → ReadFault
fault_at number (unread.Fault kind) = read.Fault (record { line = number; kind = kind })
fault_at number unread.OutOfMemory = read.OutOfMemory

-- the first fault of these lines, the first of which has this number
abbrev pub first_fault : ℕ → List (List Line × Line) → Option ScriptFault
first_fault number [] = None
first_fault number (p ∷ more) =
    option_map_or (λ kind. Some (record { line = number; kind = kind })) (line_fault (scope_of p.0) p.1) (first_fault (number + 1) more)

-- the first fault of a text, whose lines count from 1
abbrev pub script_fault : List ℕ → Option ScriptFault
script_fault text = first_fault 1 (with_before [] (lines_of text))

-- why a text is not read: it has this first fault, or memory was refused
abbrev pub IsWhyTextUnread : List ℕ → ReadFault → Type 0
IsWhyTextUnread text (read.Fault f) = script_fault text ≡ Some f
IsWhyTextUnread text read.OutOfMemory = Unit {0}
