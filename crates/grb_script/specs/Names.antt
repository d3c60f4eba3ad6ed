-- believed: The names that stand in a section of a script (own): each stands for a matrix or a vector, and has as its number how
-- many stand before it.
use Rattle.std.specs.Prelude.{ℕ, Bool, true, false, List, Option, is_some}
use Rattle.std.specs.List.{position_or_len}
use Rattle.std.specs.Map.{lookup}
use Rattle.std.specs.Option.{option_map}
use Rattle.std.specs.Str.{bytes_eq}
use Rattle.grb_script.specs.declared.names.Sort.{Sort}
use Rattle.grb_script.specs.declared.names.Sort.TheVariants as sort
use Rattle.grb_words.specs.Line.{Word}

-- a name, and the sort of the object that it stands for
abbrev pub Name : Type 0
Name = Word × Sort

-- the sort of a name, if it is one of these
abbrev pub sort_of : List Name → Word → Option Sort
sort_of names name = lookup (bytes_eq name) names

-- the name is one of these
abbrev pub stands : List Name → Word → Bool
stands names name = is_some (sort_of names name)

-- the number of a name: the place where it was made among these
abbrev pub number_in : List Name → Word → ℕ
number_in names name = position_or_len (λ n. bytes_eq name n.0) names

-- the number and the sort of a name, if it is one of these
abbrev pub name_found : List Name → Word → Option (ℕ × Sort)
name_found names name = option_map (λ sort. (number_in names name, sort)) (sort_of names name)

-- whether both sorts are one
abbrev pub same_sort : Sort → Sort → Bool
same_sort sort.Matrix sort.Matrix = true
same_sort sort.Vector sort.Vector = true
same_sort _ _ = false
