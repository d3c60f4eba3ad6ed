-- believed: The command line '[--room N] [--threads N] SCRIPT' of a program of some name (own), as the words of the crate clap say it.
use Rattle.std.specs.Prelude.{◌≡◌, ◌⊎◌, ℕ, List, [], ◌∷◌, Some, true, pos, codes, Result, is_ok, if◌then◌else◌}
use Rattle.std.specs.Option.{option_map}
use Rattle.std.specs.declared.io.ErrorKind.{ErrorKind as IoErrorKind}
use Rattle.std.specs.declared.io.ErrorKind.TheVariants as io_kind
use Rattle.std.specs.Str.Parse.{digits_value, without_leading_plus}
use Rattle.grb_order.specs.declared.limits.TheConstants.{MOST_ROOM}
use Rattle.grb_run.specs.declared.progress.TheConstants.{MOST_THREADS}
use Rattle.clap.specs.Words.{App, HasKind, Kinds, Rule, Text, fault_of, first_of, kind_of, matches_of, new_app, new_rule, one_of, with_rule}
use Rattle.clap.specs.Simple.{on_top}
use Rattle.clap.specs.declared.builder.action.ArgAction.TheVariants.{Set}
use Rattle.clap.specs.declared.builder.value_parser.ValueParser.TheVariants as parser
use Rattle.clap.specs.declared.error.Error.{Error}
use Rattle.clap.specs.declared.error.kind.ErrorKind.{ErrorKind}
use Rattle.clap.specs.declared.error.kind.ErrorKind.TheVariants.{DisplayHelp, DisplayVersion}
use Rattle.grb_run.specs.declared.fault.RunFault.{RunFault}
use Rattle.grb_run.specs.declared.arguments.Options.{Options}

-- '--room N', with N from 1 to the most that an order has room for, and 4096 where it is not given
abbrev pub room_option : Rule
room_option = record (new_rule (codes "room")) {
  long = Some (codes "room");
  action = Some Set;
  value_names = 1;
  defaults = codes "4096" ∷ [];
  parser = Some (parser.Signed (pos 1) (pos MOST_ROOM));
}

-- '--threads N', with N from 1 to the most that a command line asks for, and 1 where it is not given
abbrev pub threads_option : Rule
threads_option = record (new_rule (codes "threads")) {
  long = Some (codes "threads");
  action = Some Set;
  value_names = 1;
  defaults = codes "1" ∷ [];
  parser = Some (parser.Signed (pos 1) (pos MOST_THREADS));
}

-- SCRIPT, which has to be given
abbrev pub script_argument : Rule
script_argument = record (new_rule (codes "script")) { action = Some Set; value_names = 1; required = true }

-- the command without its arguments: it has a version, and its words do not begin with the program's name
abbrev pub named_command : Text → App
named_command program = on_top (λ s. record s { no_binary_name = true; has_version = true }) (new_app program)

-- the whole command line
unfoldable pub command_line : Text → App
command_line program = with_rule (with_rule (with_rule (named_command program) room_option) threads_option) script_argument

-- the number that a text of digits spells, where a plus may stand before them
abbrev pub number_spelled : Text → ℕ
number_spelled text = digits_value 10 (without_leading_plus text)

-- the words give this room, these threads and this path
abbrev pub GivesOptions : Text → List Text → Options → Type 0
GivesOptions program words o = (option_map number_spelled (one_of (codes "room") (matches_of (command_line program) words)) ≡ Some o.room)
    × (option_map number_spelled (one_of (codes "threads") (matches_of (command_line program) words)) ≡ Some o.threads)
    × (first_of (codes "script") (matches_of (command_line program) words) ≡ Some o.path.now)

-- what is wrong with the words, or that they ask for help or the version: one kind of error, or none
abbrev pub faults_of : Text → List Text → Kinds
faults_of program words = fault_of (command_line program) words

-- the exit status where the words give no options
abbrev pub status_of_kind : ErrorKind → ℕ
status_of_kind DisplayHelp = 0
status_of_kind DisplayVersion = 0
status_of_kind _ = 2

-- the exit status where the words could not be read
abbrev pub status_of_unread : IoErrorKind → ℕ
status_of_unread io_kind.OutOfMemory = 1
status_of_unread _ = 2

-- the words give options, a run of them ended like this, and the status is 0 where it ended well, and else 1
pub record IsExitOfRun (program : Text) (words : List Text) (Ran : Options → Result (Unit {0}) RunFault → Type 0) (status : ℕ) : Type 0 where
  pub options : Options
  pub given : GivesOptions program words options
  pub outcome : Result (Unit {0}) RunFault
  pub ran : Ran options outcome
  pub is : status ≡ (if is_ok outcome then 0 else 1)

-- the words give no options: they ask for help or the version, and the status is 0, or 1 where that could not be printed; or they are
-- faulty, and it is 2
pub record IsExitOfWords (program : Text) (words : List Text) (status : ℕ) : Type 0 where
  pub error : Error
  pub kind : HasKind (faults_of program words) error
  pub is : (status ≡ status_of_kind (kind_of error)) ⊎ ((status_of_kind (kind_of error) ≡ 0) × (status ≡ 1))

-- the program exits with this status, where runs can end so
abbrev pub IsExit : Text → List Text → (Options → Result (Unit {0}) RunFault → Type 0) → ℕ → Type 0
IsExit program words Ran status = IsExitOfRun program words Ran status ⊎ IsExitOfWords program words status
