-- believed: The words of a function (own): a unary operator, or a binary operator with a value before it or behind it.
use Rattle.std.specs.Prelude.{List, [], ◌∷◌, Option, Some, None, codes}
use Rattle.std.specs.Map.{lookup}
use Rattle.std.specs.Option.{option_and_then, option_map, option_map_or}
use Rattle.std.specs.Str.{bytes_eq}
use Rattle.grb_core.specs.declared.functions.Function.{Function}
use Rattle.grb_core.specs.declared.functions.Function.TheVariants as function
use Rattle.grb_core.specs.declared.functions.UnaryOp.{UnaryOp}
use Rattle.grb_core.specs.declared.functions.UnaryOp.TheVariants as unary
use Rattle.grb_words.specs.Line.{Word}
use Rattle.grb_words.specs.Word.{value_of, operator_of}

-- UNARY
abbrev pub unary_operators : List (Word × UnaryOp)
unary_operators =
    (codes "identity", unary.Identity) ∷ (codes "identity_bool", unary.IdentityBool) ∷ (codes "ainv", unary.Ainv) ∷ (codes "bnot", unary.Bnot) ∷ (codes "lnot", unary.Lnot) ∷ []

abbrev pub unary_of : Word → Option UnaryOp
unary_of word = lookup (bytes_eq word) unary_operators

-- 'VALUE OP' or 'OP VALUE'
abbrev pub bound_of : Word → Word → Option Function
bound_of first second =
    option_map_or (λ x. option_map (function.First x) (operator_of second)) (value_of first)
    (option_and_then (λ op. option_map (function.Second op) (value_of second)) (operator_of first))

-- the same, and the words behind it
abbrev pub bound_first : Word → List Word → Option (Function × List Word)
bound_first first [] = None
bound_first first (second ∷ others) = option_map (λ f. (f, others)) (bound_of first second)

-- the function that these words begin with, and the words behind it: 'UNARY', 'VALUE OP' or 'OP VALUE'
abbrev pub function_first : List Word → Option (Function × List Word)
function_first [] = None
function_first (first ∷ others) = option_map_or (λ op. Some (function.Unary op, others)) (unary_of first) (bound_first first others)
