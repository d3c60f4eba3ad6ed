-- believed: Where a line of a script stands (own): in which version the script is written, in which section the line is, and which
-- names stand there. What stands before the first line that begins a section is main. The names of main stand in all sections, and the
-- names that a section makes in it alone.
use Rattle.std.specs.Prelude.{ℕ, ◌+◌, ◌≤◌, Bool, true, false, ◌==◌, ◌&&◌, nat_lt, List, [], ◌∷◌, length, take, Option, Some, None}
use Rattle.std.specs.Option.{option_map_or}
use Rattle.grb_words.specs.declared.section.Section.{Section}
use Rattle.grb_words.specs.declared.section.Section.TheVariants as section
use Rattle.grb_words.specs.declared.version.Version.{Version}
use Rattle.grb_words.specs.declared.version.Version.TheVariants.{One, Two, Three}
use Rattle.grb_market.specs.Line.{Line}
use Rattle.grb_words.specs.Line.{Word, words_of}
use Rattle.grb_words.specs.Section.{section_of}
use Rattle.grb_script.specs.declared.scope.Scope.{Scope as Kept}
use Rattle.grb_script.specs.Names.{Name}
use Rattle.grb_script.specs.Command.{names_behind_words}
use Rattle.grb_script.specs.Version.{version_by}

-- the section that a line begins, if it begins one
abbrev pub section_on : Line → Option Section
section_on line = section_of (words_of line.bytes)

-- how many thread sections a script of this version has at most
abbrev pub most_threads : Version → ℕ
most_threads One = 63
most_threads Two = 255
most_threads Three = 255

-- whether this section may stand behind that one, or behind main: thread sections are numbered 1, 2, 3, .. in their order, to the most
-- that the version has, and 'finally' comes once, after all of them
abbrev pub may_follow : Version → Option Section → Section → Bool
may_follow version None (section.Thread k) = k == 1
may_follow version (Some (section.Thread n)) (section.Thread k) = nat_lt n (most_threads version) && (k == n + 1)
may_follow version (Some section.Finally) (section.Thread k) = false
may_follow version None section.Finally = true
may_follow version (Some (section.Thread n)) section.Finally = true
may_follow version (Some section.Finally) section.Finally = false

-- the version, which the first line settles; the section, and none in main; the names of main, in main as far as they are made; and the
-- names that stand: those of main, and then those of the section
pub record Scope : Type 0 where
  pub version : Option Version
  pub section : Option Section
  pub main : List Name
  pub names : List Name

-- where the first line of a script stands
abbrev pub at_start : Scope
at_start = record { version = None; section = None; main = []; names = [] }

-- the same place in a script of this version
abbrev pub with_version : Scope → Version → Scope
with_version scope version = record { version = Some version; section = scope.section; main = scope.main; names = scope.names }

-- where the first line of this section stands
abbrev pub begun : Scope → Section → Scope
begun scope section = record { version = scope.version; section = Some section; main = scope.main; names = scope.main }

-- the names of main behind a line of this section, or of main
abbrev pub main_behind : Option Section → List Name → List Name → List Name
main_behind None main names = names
main_behind (Some section) main names = main

-- the same section where these names stand
abbrev pub with_names : Scope → List Name → Scope
with_names scope names = record { version = scope.version; section = scope.section; main = main_behind scope.section scope.main names; names = names }

-- where the line stands that follows one with these words
abbrev pub scope_behind_words : Scope → List Word → Scope
scope_behind_words scope words =
    let here = with_version scope (version_by scope.version words) in
    option_map_or (begun here) (section_of words) (with_names here (names_behind_words scope.version scope.names words))

abbrev pub scope_behind_line : Scope → Line → Scope
scope_behind_line scope line = scope_behind_words scope (words_of line.bytes)

-- where the line behind these stands, if the first of them stands here
abbrev pub scope_behind_lines : Scope → List Line → Scope
scope_behind_lines scope [] = scope
scope_behind_lines scope (line ∷ more) = scope_behind_lines (scope_behind_line scope line) more

-- where a line stands that has these before it
abbrev pub scope_of : List Line → Scope
scope_of lines = scope_behind_lines at_start lines

-- the names of main, of which there are this many where a section began
abbrev pub main_kept : Option Section → ℕ → List Name → List Name
main_kept None count names = names
main_kept (Some section) count names = take count names

-- this as it is kept: how many names main has, and all names that stand
abbrev pub seen : Kept → Scope
seen scope = record { version = scope.version; section = scope.section; main = main_kept scope.section scope.main scope.names; names = scope.names }

abbrev pub IsKept : Kept → Type 0
IsKept scope = scope.main ≤ length scope.names
