-- believed: The version of a script (own): it is written in version 2 or 3 where its first line is 'version 2' or 'version 3', and else in
-- version 1.
use Rattle.std.specs.Prelude.{Bool, ◌||◌, List, Option, Some, None, is_some}
use Rattle.std.specs.Option.{unwrap_or}
use Rattle.grb_words.specs.declared.version.Version.{Version}
use Rattle.grb_words.specs.declared.version.Version.TheVariants.{One}
use Rattle.grb_words.specs.Line.{Word, is_skipped}
use Rattle.grb_words.specs.Version.{version_named}

-- the version in which a line with these words is read, by the version that the lines before it settled: none where it is the first
abbrev pub version_by : Option Version → List Word → Version
version_by None words = unwrap_or (version_named words) One
version_by (Some version) words = version

-- whether words say nothing there: those that are skipped, and those that name a version on the first line
abbrev pub says_nothing : Option Version → List Word → Bool
says_nothing None words = is_skipped words || is_some (version_named words)
says_nothing (Some version) words = is_skipped words
