-- Worked rows of the command line.
use Rattle.std.proofs.Common.{◌≡◌, ℕ, List, [], ◌∷◌, Some, codes, option_map, refl}
use Rattle.clap.specs.Words.{Text, first_of, matches_of, one_of}
use Rattle.clap.specs.declared.error.kind.ErrorKind.TheVariants.{ArgumentConflict, DisplayHelp, DisplayVersion, MissingRequiredArgument, UnknownArgument, ValueValidation}
use Rattle.clap.proofs.OnLiterals.{clap_on_literals}
use Rattle.grb_run.proofs.Prelude.{faults_of, number_spelled}
use Rattle.grb_run.specs.CommandLine.{command_line}

-- the room, the threads and the path that the words give
Gives : List Text → ℕ → ℕ → Text → Type 0
Gives words room threads path =
    (option_map number_spelled (one_of (codes "room") (matches_of (command_line (codes "grbrun")) words)) ≡ Some room)
    × (option_map number_spelled (one_of (codes "threads") (matches_of (command_line (codes "grbrun")) words)) ≡ Some threads)
    × (first_of (codes "script") (matches_of (command_line (codes "grbrun")) words) ≡ Some path)
    × (faults_of (codes "grbrun") words ≡ [])

path_alone : Gives (codes "first.grb" ∷ []) 4096 1 (codes "first.grb")
unfolding Gives command_line clap_on_literals
path_alone = (refl, refl, refl, refl)

room_before : Gives (codes "--room" ∷ codes "1" ∷ codes "x" ∷ []) 1 1 (codes "x")
unfolding Gives command_line clap_on_literals
room_before = (refl, refl, refl, refl)

room_behind : Gives (codes "x" ∷ codes "--room=65536" ∷ []) 65536 1 (codes "x")
unfolding Gives command_line clap_on_literals
room_behind = (refl, refl, refl, refl)

threads_before : Gives (codes "--threads" ∷ codes "4" ∷ codes "x" ∷ []) 4096 4 (codes "x")
unfolding Gives command_line clap_on_literals
threads_before = (refl, refl, refl, refl)

threads_behind : Gives (codes "--room" ∷ codes "8" ∷ codes "x" ∷ codes "--threads=64" ∷ []) 8 64 (codes "x")
unfolding Gives command_line clap_on_literals
threads_behind = (refl, refl, refl, refl)

no_threads : faults_of (codes "grbrun") (codes "--threads" ∷ codes "0" ∷ codes "x" ∷ []) ≡ ValueValidation ∷ []
unfolding command_line clap_on_literals
no_threads = refl

too_many_threads : faults_of (codes "grbrun") (codes "--threads" ∷ codes "65" ∷ codes "x" ∷ []) ≡ ValueValidation ∷ []
unfolding command_line clap_on_literals
too_many_threads = refl

no_room : faults_of (codes "grbrun") (codes "--room" ∷ codes "0" ∷ codes "x" ∷ []) ≡ ValueValidation ∷ []
unfolding command_line clap_on_literals
no_room = refl

too_much_room : faults_of (codes "grbrun") (codes "--room" ∷ codes "65537" ∷ codes "x" ∷ []) ≡ ValueValidation ∷ []
unfolding command_line clap_on_literals
too_much_room = refl

room_for_no_number : faults_of (codes "grbrun") (codes "--room" ∷ codes "x" ∷ []) ≡ ValueValidation ∷ []
unfolding command_line clap_on_literals
room_for_no_number = refl

two_rooms : faults_of (codes "grbrun") (codes "--room" ∷ codes "1" ∷ codes "--room" ∷ codes "2" ∷ codes "x" ∷ []) ≡ ArgumentConflict ∷ []
unfolding command_line clap_on_literals
two_rooms = refl

nothing : faults_of (codes "grbrun") [] ≡ MissingRequiredArgument ∷ []
unfolding command_line clap_on_literals
nothing = refl

two_paths : faults_of (codes "grbrun") (codes "x" ∷ codes "y" ∷ []) ≡ UnknownArgument ∷ []
unfolding command_line clap_on_literals
two_paths = refl

other_option : faults_of (codes "grbrun") (codes "--rooms" ∷ codes "3" ∷ codes "x" ∷ []) ≡ UnknownArgument ∷ []
unfolding command_line clap_on_literals
other_option = refl

help : faults_of (codes "grbrun") (codes "--help" ∷ []) ≡ DisplayHelp ∷ []
unfolding command_line clap_on_literals
help = refl

version : faults_of (codes "grbrun") (codes "--version" ∷ []) ≡ DisplayVersion ∷ []
unfolding command_line clap_on_literals
version = refl
