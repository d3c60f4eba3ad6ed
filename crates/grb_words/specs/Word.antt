-- believed: The classes of words: keywords, names, numbers, values, domains, monoids, operators, semirings and modes of a wait
-- (own).
use Rattle.std.specs.Prelude.{ℕ, ◌^◌, Bool, true, false, not, ◌==◌, ◌&&◌, ◌||◌, nat_le, nat_lt, if◌then◌else◌, List, [], ◌∷◌, ◌++◌, length, Option, Some, None, codes}
use Rattle.std.specs.List.{list_all}
use Rattle.std.specs.Map.{lookup}
use Rattle.std.specs.Option.{option_and_then, option_map}
use Rattle.std.specs.Str.{bytes_eq}
use Rattle.std.specs.Str.Parse.{digits_value}
use Rattle.grb_core.specs.declared.domain.Domain.{Domain}
use Rattle.grb_core.specs.declared.domain.Domain.TheVariants as domain
use Rattle.grb_core.specs.declared.value.Value.{Value}
use Rattle.grb_core.specs.declared.value.Value.TheVariants as value
use Rattle.grb_core.specs.declared.monoid.Monoid.{Monoid}
use Rattle.grb_core.specs.declared.monoid.Monoid.TheVariants as monoid
use Rattle.grb_core.specs.declared.operator.BinaryOp.{BinaryOp}
use Rattle.grb_core.specs.declared.operator.BinaryOp.TheVariants as op
use Rattle.grb_call.specs.declared.wait_mode.WaitMode.{WaitMode}
use Rattle.grb_call.specs.declared.wait_mode.WaitMode.TheVariants as mode
use Rattle.grb_market.specs.Numbers.{is_digit}
use Rattle.grb_words.specs.declared.keyword.Ewise.TheVariants as ewise
use Rattle.grb_words.specs.declared.keyword.Keyword.{Keyword}
use Rattle.grb_words.specs.declared.keyword.Keyword.TheVariants as keyword
use Rattle.grb_words.specs.declared.keyword.Multiply.TheVariants as multiply
use Rattle.grb_words.specs.declared.keyword.Placed.TheVariants as placed
use Rattle.grb_words.specs.declared.keyword.Whole.TheVariants as whole
use Rattle.grb_words.specs.declared.version.Version.{Version}
use Rattle.grb_words.specs.declared.version.Version.TheVariants.{One, Two, Three}
use Rattle.grb_words.specs.Line.{Word}

abbrev pub is_letter : ℕ → Bool
is_letter b = (nat_le 65 b && nat_le b 90) || (nat_le 97 b && nat_le b 122)

-- a byte of a name behind its first: a letter, a digit or '_'
abbrev pub is_name_byte : ℕ → Bool
is_name_byte b = is_letter b || is_digit b || (b == 95)

-- NAME: a letter, then up to 31 letters, digits or '_'
abbrev pub is_name : Word → Bool
is_name [] = false
is_name (b ∷ bs) = is_letter b && list_all is_name_byte bs && nat_le (length bs) 31

-- '0', or digits of which the first is no '0'
abbrev pub is_numeral : Word → Bool
is_numeral [] = false
is_numeral (b ∷ []) = is_digit b
is_numeral (b ∷ bs) = list_all is_digit (b ∷ bs) && not (b == 48)

-- a number: a numeral of at most 18446744073709551615
abbrev pub numeral_value : Word → Option ℕ
numeral_value word = if is_numeral word && nat_lt (digits_value 10 word) (2 ^ 64) then Some (digits_value 10 word) else None

-- DOMAIN
abbrev pub domain_of : Word → Option Domain
domain_of word = if bytes_eq word (codes "bool") then Some domain.Bool else (if bytes_eq word (codes "uint64") then Some domain.Uint64 else None)

-- VALUE: 'true' or 'false', or a number
abbrev pub value_of : Word → Option Value
value_of word =
    if bytes_eq word (codes "true") then Some (value.Bool true)
    else (if bytes_eq word (codes "false") then Some (value.Bool false)
    else option_map (λ n. value.Uint64 n) (numeral_value word))

-- MONOID
abbrev pub monoids : List (Word × Monoid)
monoids =
    (codes "lor", monoid.Lor) ∷ (codes "land", monoid.Land) ∷ (codes "lxor", monoid.Lxor) ∷ (codes "lxnor", monoid.Lxnor)
    ∷ (codes "plus", monoid.Plus) ∷ (codes "times", monoid.Times) ∷ (codes "min", monoid.Min) ∷ (codes "max", monoid.Max) ∷ []

abbrev pub monoid_of : Word → Option Monoid
monoid_of word = lookup (bytes_eq word) monoids

-- OP: on numbers, and on both domains
abbrev pub uint64_operators : List (Word × BinaryOp)
uint64_operators =
    (codes "plus", op.Plus) ∷ (codes "times", op.Times) ∷ (codes "min", op.Min) ∷ (codes "max", op.Max)
    ∷ (codes "minus", op.Minus) ∷ (codes "first", op.First) ∷ (codes "second", op.Second) ∷ []

abbrev pub operators : List (Word × BinaryOp)
operators =
    (codes "lor", op.Lor) ∷ (codes "land", op.Land) ∷ (codes "lxor", op.Lxor) ∷ (codes "lxnor", op.Lxnor)
    ∷ (codes "first_bool", op.FirstBool) ∷ (codes "second_bool", op.SecondBool) ∷ uint64_operators

abbrev pub operator_of : Word → Option BinaryOp
operator_of word = lookup (bytes_eq word) operators

-- the word of an operator
abbrev pub operator_word : BinaryOp → Word
operator_word op.Lor = codes "lor"
operator_word op.Land = codes "land"
operator_word op.Lxor = codes "lxor"
operator_word op.Lxnor = codes "lxnor"
operator_word op.FirstBool = codes "first_bool"
operator_word op.SecondBool = codes "second_bool"
operator_word op.Plus = codes "plus"
operator_word op.Times = codes "times"
operator_word op.Min = codes "min"
operator_word op.Max = codes "max"
operator_word op.Minus = codes "minus"
operator_word op.First = codes "first"
operator_word op.Second = codes "second"

-- the word of a monoid
abbrev pub monoid_word : Monoid → Word
monoid_word monoid.Lor = codes "lor"
monoid_word monoid.Land = codes "land"
monoid_word monoid.Lxor = codes "lxor"
monoid_word monoid.Lxnor = codes "lxnor"
monoid_word monoid.Plus = codes "plus"
monoid_word monoid.Times = codes "times"
monoid_word monoid.Min = codes "min"
monoid_word monoid.Max = codes "max"

-- the bytes before the first '.', and those behind it
abbrev pub at_dot : Word → Option (Word × Word)
at_dot [] = None
at_dot (b ∷ bs) = if b == 46 then Some ([], bs) else option_map (λ parts. (b ∷ parts.0, parts.1)) (at_dot bs)

-- SEMIRING: the words of a monoid and of an operator with a '.' between them
abbrev pub semiring_of : Word → Option (Monoid × BinaryOp)
semiring_of word = option_and_then (λ parts. option_and_then (λ m. option_map (λ f. (m, f)) (operator_of parts.1)) (monoid_of parts.0)) (at_dot word)

abbrev pub semiring_word : Monoid → BinaryOp → Word
semiring_word m f = monoid_word m ++ 46 ∷ operator_word f

-- MODE
abbrev pub wait_mode_of : Word → Option WaitMode
wait_mode_of word =
    if bytes_eq word (codes "complete") then Some mode.Complete
    else (if bytes_eq word (codes "materialize") then Some mode.Materialize else None)

-- the first words of statements: of operations; those and the ones of entries and sizes; all of version 2
abbrev pub operation_keywords : List (Word × Keyword)
operation_keywords =
    (codes "ewiseadd", keyword.Ewise ewise.Add) ∷ (codes "ewisemult", keyword.Ewise ewise.Mult)
    ∷ (codes "mxv", keyword.Multiply multiply.Mxv) ∷ (codes "vxm", keyword.Multiply multiply.Vxm) ∷ (codes "mxm", keyword.Multiply multiply.Mxm)
    ∷ (codes "reduce", keyword.Reduce) ∷ (codes "total", keyword.Total) ∷ (codes "wait", keyword.Wait) ∷ []

abbrev pub entry_keywords : List (Word × Keyword)
entry_keywords =
    (codes "remove", keyword.Placed placed.Remove) ∷ (codes "get", keyword.Placed placed.Get)
    ∷ (codes "resize", keyword.Placed placed.Resize) ∷ (codes "set", keyword.Set) ∷ (codes "build", keyword.Build) ∷ operation_keywords

abbrev pub keywords : List (Word × Keyword)
keywords =
    (codes "matrix", keyword.Matrix) ∷ (codes "vector", keyword.Vector) ∷ (codes "dup", keyword.Dup)
    ∷ (codes "free", keyword.Whole whole.Free) ∷ (codes "nvals", keyword.Whole whole.Nvals)
    ∷ (codes "size", keyword.Whole whole.Size) ∷ (codes "clear", keyword.Whole whole.Clear) ∷ entry_keywords

abbrev pub keyword_of : Word → Option Keyword
keyword_of word = lookup (bytes_eq word) keywords

-- the first words of statements in version 3
abbrev pub later_keywords : List (Word × Keyword)
later_keywords =
    (codes "transpose", keyword.Transpose) ∷ (codes "apply", keyword.Apply) ∷ (codes "select", keyword.Select) ∷ (codes "kronecker", keyword.Kronecker)
    ∷ (codes "diag", keyword.Diag) ∷ (codes "tuples", keyword.Whole whole.Tuples) ∷ keywords

-- the keyword that a word is in a script of this version: 'vxm' is one from version 2 on
abbrev pub keyword_in : Version → Word → Option Keyword
keyword_in One word = if bytes_eq word (codes "vxm") then None else keyword_of word
keyword_in Two word = keyword_of word
keyword_in Three word = lookup (bytes_eq word) later_keywords
