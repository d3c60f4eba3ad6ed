-- believed: The lines that begin the sections of a script (own): 'thread K' and 'finally'.
use Rattle.std.specs.Prelude.{if◌then◌else◌, List, [], ◌∷◌, Option, Some, None, codes}
use Rattle.std.specs.Option.{option_map}
use Rattle.std.specs.Str.{bytes_eq}
use Rattle.grb_words.specs.declared.section.Section.{Section}
use Rattle.grb_words.specs.declared.section.Section.TheVariants as section
use Rattle.grb_words.specs.Line.{Word}
use Rattle.grb_words.specs.Word.{numeral_value}

-- the section that a line with these words begins, if they spell one
abbrev pub section_of : List Word → Option Section
section_of (first ∷ []) = if bytes_eq first (codes "finally") then Some section.Finally else None
section_of (first ∷ k ∷ []) = if bytes_eq first (codes "thread") then option_map section.Thread (numeral_value k) else None
section_of _ = None
