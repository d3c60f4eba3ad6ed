-- believed: The words of a line of a script (own). The lines are those of `Rattle.grb_market.specs.Line`, as of a Matrix Market file.
use Rattle.std.specs.Prelude.{ℕ, Bool, true, false, not, ◌==◌, ◌&&◌, ◌||◌, nat_le, List, [], ◌∷◌, length, filter, slice_index, codes}
use Rattle.std.specs.List.{slice_split, list_all}
use Rattle.std.specs.Str.{bytes_eq}

abbrev pub Word : Type 0
Word = List ℕ

-- the words of a line, which one or more spaces part
abbrev pub words_of : List ℕ → List Word
words_of bytes = filter (λ word. not (length word == 0)) (slice_split (λ b. b == 32) bytes)

-- a byte that may stand in a line: 0x20 to 0x7E
abbrev pub is_allowed : ℕ → Bool
is_allowed b = nat_le 32 b && nat_le b 126

abbrev pub has_allowed_bytes : List ℕ → Bool
has_allowed_bytes bytes = list_all is_allowed bytes

-- a line without words, and a comment, whose first byte other than a space is a '#', are skipped
abbrev pub is_skipped : List Word → Bool
is_skipped [] = true
is_skipped (word ∷ words) = slice_index word 0 == 35

-- a line that begins with one of the words of sections
abbrev pub is_section : List Word → Bool
is_section [] = false
is_section (word ∷ words) = bytes_eq word (codes "thread") || bytes_eq word (codes "finally")

-- a line that begins with the word of a load
abbrev pub is_load : List Word → Bool
is_load [] = false
is_load (word ∷ words) = bytes_eq word (codes "load")
