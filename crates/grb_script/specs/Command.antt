-- believed: What a line of a script asks for where some names stand (own): a load, or what a statement of one call says.
use Rattle.std.specs.Prelude.{◌≡◌, if◌then◌else◌, List, [], ◌∷◌, ◌++◌, Option, Result, Ok, Err}
use Rattle.std.specs.Option.{option_map_or, option_to_list}
use Rattle.std.specs.Result.{result_ok}
use Rattle.grb_words.specs.declared.fault.FaultKind.{FaultKind}
use Rattle.grb_words.specs.declared.fault.FaultKind.TheVariants as kind
use Rattle.grb_words.specs.declared.fault.Unread.{Unread}
use Rattle.grb_words.specs.declared.fault.Unread.TheVariants as unread
use Rattle.grb_words.specs.declared.version.Version.{Version}
use Rattle.grb_words.specs.Form.{form_of, load_of}
use Rattle.grb_market.specs.Line.{Line}
use Rattle.grb_words.specs.Line.{Word, words_of, is_load}
use Rattle.grb_script.specs.declared.command.Command.{Command}
use Rattle.grb_script.specs.declared.command.Command.TheVariants as command
use Rattle.grb_script.specs.declared.names.Sort.TheVariants as sort
use Rattle.grb_script.specs.declared.statement.Statement.{Statement}
use Rattle.grb_script.specs.Names.{Name, stands}
use Rattle.grb_script.specs.Reading.{reading, names_behind}
use Rattle.grb_script.specs.Version.{version_by, says_nothing}

-- the path of a load by its name and path, if words spell these: the name must not stand yet
abbrev pub loading : List Name → Option (Word × Word) → Result Word FaultKind
loading names load = option_map_or (λ l. if stands names l.0 then Err kind.NameTaken else Ok l.1) load (Err kind.Statement)

-- the names behind a load: one more, of a matrix
abbrev pub names_behind_load : List Name → Option (Word × Word) → List Name
names_behind_load names load = option_map_or (λ l. names ++ (l.0, sort.Matrix) ∷ []) load names

-- a load or a statement as what is asked for
abbrev pub asks_load : Result Word FaultKind → Result Command FaultKind
asks_load (Ok path) = Ok (command.Load path)
asks_load (Err fault) = Err fault

abbrev pub asks_statement : Result Statement FaultKind → Result Command FaultKind
asks_statement (Ok s) = Ok (command.Statement s)
asks_statement (Err fault) = Err fault

-- what words ask for in a script of this version, or what is wrong with them
abbrev pub asking : Version → List Name → List Word → Result Command FaultKind
asking version names words =
    if is_load words then asks_load (loading names (load_of words)) else asks_statement (reading names (form_of version words))

-- the names that stand behind these words
abbrev pub names_made : Version → List Name → List Word → List Name
names_made version names words = if is_load words then names_behind_load names (load_of words) else names_behind names (form_of version words)

-- what the words of a line ask for, if they ask for something, by the version that the lines before it settled
abbrev pub commands_in : Option Version → List Name → List Word → List Command
commands_in settled names words = if says_nothing settled words then [] else option_to_list (result_ok (asking (version_by settled words) names words))

abbrev pub commands_on : Option Version → List Name → Line → List Command
commands_on settled names line = commands_in settled names (words_of line.bytes)

-- the names that stand behind the words of a line
abbrev pub names_behind_words : Option Version → List Name → List Word → List Name
names_behind_words settled names words = if says_nothing settled words then names else names_made (version_by settled words) names words

-- this is the path that a load asks for, and these are the names behind it
pub record IsLoading (names : List Name) (load : Option (Word × Word)) (path : Word) (after : List Name) : Type 0 where
  pub says : loading names load ≡ Ok path
  pub behind : after ≡ names_behind_load names load

-- why a load was not read: this is wrong with it, or memory was refused
abbrev pub IsWhyUnloaded : List Name → Option (Word × Word) → Unread → Type 0
IsWhyUnloaded names load (unread.Fault fault) = loading names load ≡ Err fault
IsWhyUnloaded names load unread.OutOfMemory = Unit {0}

-- this is what words ask for, and these are the names behind them
pub record IsAsked (version : Version) (names : List Name) (words : List Word) (c : Command) (after : List Name) : Type 0 where
  pub says : asking version names words ≡ Ok c
  pub behind : after ≡ names_made version names words

-- why words were not read: this is wrong with them, or memory was refused
abbrev pub IsWhyUnasked : Version → List Name → List Word → Unread → Type 0
IsWhyUnasked version names words (unread.Fault fault) = asking version names words ≡ Err fault
IsWhyUnasked version names words unread.OutOfMemory = Unit {0}
