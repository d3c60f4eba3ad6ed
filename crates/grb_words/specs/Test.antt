-- believed: The two words of a test of an entry (own): its name, and the diagonal, the number or the value that it tests by.
use Rattle.std.specs.Prelude.{ℕ, List, [], ◌∷◌, Option, None, codes}
use Rattle.std.specs.Map.{lookup}
use Rattle.std.specs.Option.{option_and_then, option_map, option_or}
use Rattle.std.specs.Str.{bytes_eq}
use Rattle.grb_core.specs.declared.value.Value.{Value}
use Rattle.grb_core.specs.declared.tests.Diagonal.{Diagonal}
use Rattle.grb_core.specs.declared.tests.Test.{Test}
use Rattle.grb_core.specs.declared.tests.Test.TheVariants as test
use Rattle.grb_words.specs.Diagonal.{diagonal_of}
use Rattle.grb_words.specs.Line.{Word}
use Rattle.grb_words.specs.Word.{numeral_value, value_of}

-- the tests by a diagonal, by a row or a column, and by a value
abbrev pub diagonal_tests : Diagonal → List (Word × Test)
diagonal_tests d = (codes "tril", test.Tril d) ∷ (codes "triu", test.Triu d) ∷ (codes "diag", test.Diag d) ∷ (codes "offdiag", test.Offdiag d) ∷ []

abbrev pub place_tests : ℕ → List (Word × Test)
place_tests n = (codes "rowle", test.RowLe n) ∷ (codes "rowgt", test.RowGt n) ∷ (codes "colle", test.ColLe n) ∷ (codes "colgt", test.ColGt n) ∷ []

abbrev pub value_tests : Value → List (Word × Test)
value_tests x =
    (codes "valueeq", test.ValueEq x) ∷ (codes "valuene", test.ValueNe x) ∷ (codes "valuelt", test.ValueLt x)
    ∷ (codes "valuele", test.ValueLe x) ∷ (codes "valuegt", test.ValueGt x) ∷ (codes "valuege", test.ValueGe x) ∷ []

-- the test of each class that these two words spell, if they spell one
abbrev pub diagonal_test : Word → Word → Option Test
diagonal_test word argument = option_and_then (λ d. lookup (bytes_eq word) (diagonal_tests d)) (diagonal_of argument)

abbrev pub place_test : Word → Word → Option Test
place_test word argument = option_and_then (λ n. lookup (bytes_eq word) (place_tests n)) (numeral_value argument)

abbrev pub value_test : Word → Word → Option Test
value_test word argument = option_and_then (λ x. lookup (bytes_eq word) (value_tests x)) (value_of argument)

-- TEST
abbrev pub test_of : Word → Word → Option Test
test_of word argument = option_or (option_or (diagonal_test word argument) (place_test word argument)) (value_test word argument)

-- the test that these words begin with, and the words behind it
abbrev pub test_first : List Word → Option (Test × List Word)
test_first (word ∷ argument ∷ others) = option_map (λ t. (t, others)) (test_of word argument)
test_first _ = None
