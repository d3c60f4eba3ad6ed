-- believed: The line that says which version a script is written in (own): 'version 2' or 'version 3'.
use Rattle.std.specs.Prelude.{if◌then◌else◌, List, [], ◌∷◌, Option, Some, None, codes}
use Rattle.std.specs.Str.{bytes_eq}
use Rattle.grb_words.specs.declared.version.Version.{Version}
use Rattle.grb_words.specs.declared.version.Version.TheVariants.{Two, Three}
use Rattle.grb_words.specs.Line.{Word}

-- the version of this number
abbrev pub later_version : Word → Option Version
later_version number = if bytes_eq number (codes "2") then Some Two else (if bytes_eq number (codes "3") then Some Three else None)

-- the version that these words name, if they are 'version 2' or 'version 3' and no more
abbrev pub version_named : List Word → Option Version
version_named (first ∷ number ∷ []) = if bytes_eq first (codes "version") then later_version number else None
version_named _ = None
