-- believed: What a reader of these definitions relies on: `laws.rt` promises each.
use Rattle.std.specs.Prelude.{◌≡◌, List, Some}
use Rattle.grb_core.specs.declared.monoid.Monoid.{Monoid}
use Rattle.grb_core.specs.declared.operator.BinaryOp.{BinaryOp}
use Rattle.grb_words.specs.Line.{Word}
use Rattle.grb_words.specs.Word.{semiring_of, semiring_word}
use Rattle.grb_words.specs.Options.{OptionWords, IsNamed, options_words, options_of}

-- words are read as options only where they spell these
abbrev pub OptionsAreSpelled : Type 0
OptionsAreSpelled = (words : List Word) (o : OptionWords) → options_of words ≡ Some o → words ≡ options_words o

-- what spells options is read as these
abbrev pub SpelledOptionsAreRead : Type 0
SpelledOptionsAreRead = (o : OptionWords) → IsNamed o.mask → options_of (options_words o) ≡ Some o

-- a word is read as a semiring only where it spells this monoid and this operator
abbrev pub SemiringsAreSpelled : Type 0
SemiringsAreSpelled = (word : Word) (m : Monoid) (f : BinaryOp) → semiring_of word ≡ Some (m, f) → word ≡ semiring_word m f

-- what spells a semiring is read as it
abbrev pub SpelledSemiringsAreRead : Type 0
SpelledSemiringsAreRead = (m : Monoid) (f : BinaryOp) → semiring_of (semiring_word m f) ≡ Some (m, f)
